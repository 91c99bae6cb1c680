-- What a `?` hands on: the refusal of the call before it.
use Rattle.std.specs.Prelude.{Result, Err, ◌≡◌}
use Rattle.std.specs.Result.{IsErrAnd}
use mathlib.Core.Path.{◌∙◌, ap}
use Rattle.std.proofs.lemmas.Result.{err_from_is_err_and}
use Rattle.plan.specs.declared.Refusal.{Refusal}

pub handed_on : {T : Type 0} (r : Result T Refusal) (e : Refusal) → IsErrAnd r (λ y. y ≡ e) → r ≡ Err e
handed_on r e q = let p = err_from_is_err_and r q in p.1 ∙ ap Err p.2
