use Rattle.numbers.specs.Bytes.{numbers}
use Rattle.count_fill.proofs.SettingLaws.{Setting}
use Rattle.count_fill.proofs.Settings.set_coins.Given as goal

abbrev pub invariant-loop-c : goal.invariant-loop-c
invariant-loop-c l = Setting l.f.p l.self.set l.self.owners.now (numbers l.self.given.now) l.k l.initial.out l.out l.from l.rest l.c
