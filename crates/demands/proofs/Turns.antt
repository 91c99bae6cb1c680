-- The checks of two plans in turn.
--     first_past, second_past      where those of one pass, the first that does not hold is the other's
--     turned_passed                where all pass, both plans' do
-- Assumes nothing.
use Rattle.std.proofs.Common.{Ok}
use mathlib.Core.Path.{◌≡◌, refl, ap, ◌∙◌}
use mathlib.Core.List.{List, [], ◌∷◌}
use Rattle.plan.specs.Refusals.{Checked, and_then, first_of}
use Rattle.plan.proofs.Refusals.{and_then_passed, passed_both}
use Rattle.match_prepared.specs.PreparedCalls.{in_turn}

pub first_past : (cs ds : List Checked) → first_of cs ≡ Ok tt → first_of (in_turn cs ds) ≡ first_of ds
unfolding in_turn first_of
first_past [] ds e = refl
first_past (c ∷ cs) [] e = e
first_past (c ∷ cs) (d ∷ ds) e =
    let a = passed_both c (first_of cs) e in
    and_then_passed c _ a.0 ∙ ap (and_then d) (first_past cs ds a.1)

pub second_past : (cs ds : List Checked) → first_of ds ≡ Ok tt → first_of (in_turn cs ds) ≡ first_of cs
unfolding in_turn first_of
second_past [] ds e = e
second_past (c ∷ cs) [] e = refl
second_past (c ∷ cs) (d ∷ ds) e =
    let a = passed_both d (first_of ds) e in
    ap (and_then c) (and_then_passed d _ a.0 ∙ second_past cs ds a.1)

pub turned_passed : (cs ds : List Checked) → first_of (in_turn cs ds) ≡ Ok tt → (first_of cs ≡ Ok tt) × (first_of ds ≡ Ok tt)
unfolding in_turn first_of
turned_passed [] ds e = (refl, e)
turned_passed (c ∷ cs) [] e = (e, refl)
turned_passed (c ∷ cs) (d ∷ ds) e =
    let a = passed_both c _ e in
    let b = passed_both d _ a.1 in
    let r = turned_passed cs ds b.1 in
    (and_then_passed c (first_of cs) a.0 ∙ r.0, and_then_passed d (first_of ds) b.0 ∙ r.1)
