use Rattle.match_call.proofs.RunsLaws.{Matching}
use Rattle.match_call.proofs.working.Matcher.work.Given as goal

abbrev pub invariant-loop-g : goal.invariant-loop-g
invariant-loop-g l =
    Matching l.self.run.plan.now.bytes.now l.self.run.plan.now.header l.self.set l.self.first.now l.self.second.now l.self.coins.now l.self.first_triples.now l.self.second_triples.now
    l.initial.out l.before l.after l.out l.at l.next l.spent l.g
