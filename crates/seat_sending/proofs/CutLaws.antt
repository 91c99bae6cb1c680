-- Laws of the pieces of a truncated share.
--     truncating     what the matrix makes of the mail
--     piecing        the loop that writes it
-- Assumes nothing.
use mathlib.Core.Path.{◌≡◌, sym, ap, ap₂, ◌∙◌}
use mathlib.Core.Bool.{true}
use mathlib.Core.List.{List, ◌++◌}
use Prim.Native.Nat.{ℕ, ◌+◌, ◌*◌, ◌<◌, ◌≤◌}
use native.Mathlib.Nat.{mod-lt}
use native.Mathlib.Omega.{arith}
use borrow.Author.Rules.{rules}
use lib.ListN.{length, get_or, take, drop, length-map}
use lib.Seq.{take_at, get_or-take, length-take-le}
use Rattle.numbers.specs.Bytes.{width, numbers, all_below, stored}
use Rattle.numbers.proofs.Tables.{is-tab, get_or-tab}
use Rattle.numbers.proofs.Fills.{Numbered, number-none, number-next, numbered-all}
use Rattle.sharing_laws.specs.Basis.{row}
use Rattle.sharing_laws.specs.Interp.{dot}
use Rattle.sharing_laws.proofs.Sums.{dot_canon}
use Rattle.sharing_matrix.specs.Matrix.{applied, Few}
use Rattle.sharing_matrix.proofs.Ruling.{length-row}
use Rattle.plan.specs.declared.Step.{Step}
use Rattle.plan.specs.declared.Step.TheVariants.{SendTruncated}
use Rattle.plan.specs.declared.Header.{Header}
use Rattle.plan.specs.Plans.{Plan, party_count, sent_by}
use Rattle.plan.specs.File.{plan_of}
use Rattle.plan.specs.Planned.{Planned}
use Rattle.plan.proofs.Planned.{plan_t, plan_p, plan_n}
use Rattle.plan.proofs.Valid.{planned-ready}
use Rattle.seat_messages.specs.Messages.{from_each, send_at}
use Rattle.seat_messages.proofs.PointLaws.{plan_points_below, points-within, points-count}
use Rattle.seat_results.proofs.ResultLaws.{shares_long, shares_below, dot_from_one}
use Rattle.seat_sending.specs.Sending.{Elements, outgoing}
use Rattle.seat_sending.proofs.SendLaws.{flat_ones}
use Rattle.seat_sending.proofs.DealLaws.{by_points, map-ext}

length-applied : (bs : List ℕ) (h : Header) → Planned bs h → (vs : List ℕ) → length (applied (plan_of bs).p (plan_of bs).t (plan_of bs).points vs) ≡ h.n
unfolding applied party_count
length-applied bs h w vs = length-map (plan_of bs).points (λ x. dot (plan_of bs).p (row (plan_of bs).p (plan_of bs).t (plan_of bs).points x) vs) ∙ plan_n w

-- ---- what the matrix makes of the mail
module _ (bs : List ℕ) (h : Header) (w : Planned bs h) (pts : List ℕ) (e : take h.n pts ≡ (plan_of bs).points) where
  pub few-points : Few h.field.p h.t (take h.n pts)
  few-points = record {
    elements = rw e (plan_points_below bs h w);
    count = omega (arith, points-count bs h w pts e h.n (omega arith), w.n-high);
    degree = omega (arith, w.threshold, w.n-high);
  }

  pub room-long : (room : List ℕ) → length room ≡ 15 → length (take h.n room) ≡ length (take h.n pts)
  room-long room l = length-take-le h.n room (omega (arith, w.n-high)) ∙ sym (points-count bs h w pts e h.n (omega arith))

  module _ (mail values : List ℕ) (q : take h.n values ≡ from_each h.n 1 0 (numbers mail)) where
    pub values-below : (inputs coins triples shares : List ℕ) → Elements (plan_of bs) inputs coins triples shares mail → all_below h.field.p (take h.n values) ≡ true
    values-below inputs coins triples shares l = rw q (shares_below h.field.p h.n 1 0 (numbers mail) (planned-ready bs h w) (rw (← plan_p w) l.mail_below))

    pub values-long : length (take h.n values) ≡ length (take h.n pts)
    values-long = ap length q ∙ shares_long h.n 1 0 (numbers mail) ∙ sym (points-count bs h w pts e h.n (omega arith))

    -- of as many numbers as there are parties
    whole-mail : applied (plan_of bs).p (plan_of bs).t (plan_of bs).points (from_each h.n 1 0 (numbers mail)) ≡ applied (plan_of bs).p (plan_of bs).t (plan_of bs).points (numbers mail)
    unfolding applied party_count
    whole-mail =
        let plan : Plan = plan_of bs in
        map-ext (λ x. dot plan.p (row plan.p plan.t plan.points x) (from_each h.n 1 0 (numbers mail))) (λ x. dot plan.p (row plan.p plan.t plan.points x) (numbers mail))
        (λ x.
        dot_from_one plan.p (rw (plan_p w) (omega (arith, w.p_low))) (row plan.p plan.t plan.points x) (numbers mail) h.n
        (omega (arith, length-row plan.p plan.t plan.points x, plan_n w)))
        plan.points

    pub applied-is : (ys room : List ℕ) → ys ≡ applied h.field.p h.t (take h.n pts) (take h.n values)
        → take h.n (ys ++ drop h.n room) ≡ applied (plan_of bs).p (plan_of bs).t (plan_of bs).points (numbers mail)
    unfolding applied
    applied-is ys room is =
        take_at ys (drop h.n room) h.n (ap length is ∙ length-map (take h.n pts) (λ x. dot h.field.p (row h.field.p h.t (take h.n pts) x) (take h.n values)) ∙ points-count bs h w pts e h.n (omega arith))
        ∙ is
        ∙ ap₂ (applied h.field.p h.t) e q
        ∙ ap₂ (λ (p t : ℕ). applied p t (plan_of bs).points (from_each h.n 1 0 (numbers mail))) (sym (plan_p w)) (sym (plan_t w))
        ∙ whole-mail

-- As it is: answers name this set, since the check leaves their goals open by `using` alone.
pub ruleset truncating = (rules, few-points, room-long, values-below, values-long, applied-is, points-within, points-count)

-- ---- its pieces
-- the invariant: the first j pieces stand
pub record Pieced (pieces : List ℕ) (n : ℕ) (d₀ d : List ℕ) (j : ℕ) : Type 0 where
  pub within : j ≤ n
  pub few : n ≤ 15
  pub is : Numbered (λ j. get_or pieces j 0) n d₀ d j

module _ (bs : List ℕ) (h : Header) (w : Planned bs h) (pieces : List ℕ) where
  pub piece-none : (d : List ℕ) → length d ≡ width * party_count (plan_of bs) → Pieced pieces h.n d d 0
  piece-none d e = record { within = omega arith; few = w.n-high; is = number-none (λ j. get_or pieces j 0) h.n d (omega (arith, plan_n w)) }

  module _ (mail : List ℕ) (e : take h.n pieces ≡ applied (plan_of bs).p (plan_of bs).t (plan_of bs).points mail) where
    piece-below : (j : ℕ) → j < h.n → get_or pieces j 0 < h.field.p
    unfolding applied party_count
    piece-below j l =
        let plan : Plan = plan_of bs in
        let f : ℕ → ℕ = λ x. dot plan.p (row plan.p plan.t plan.points x) mail in
        let is : get_or pieces j 0 ≡ f (get_or plan.points j 0) =
        sym (get_or-take h.n pieces j 0 l)
        ∙ ap (λ (l : List ℕ). get_or l j 0) (e ∙ by_points f plan.points)
        ∙ get_or-tab (λ k. f (get_or plan.points k 0)) (length plan.points) j 0 (omega (arith, plan_n w)) in
        omega (arith, is, (dot_canon plan.p (row plan.p plan.t plan.points (get_or plan.points j 0)) mail).canon, mod-lt (f (get_or plan.points j 0)) {m = plan.p} (rw (plan_p w) (omega (arith, w.p_low))), plan_p w)

    module _ (d₀ d : List ℕ) (j : ℕ) (v : Pieced pieces h.n d₀ d j) where
      pub piece_next : (x : ℕ) (d' : List ℕ) → j < h.n → x ≡ get_or pieces j 0 → d' ≡ stored d j x → Pieced pieces h.n d₀ d' (j + 1)
      piece_next x d' l ex st =
          let next : Numbered (λ j. get_or pieces j 0) h.n d₀ d' (j + 1) =
          number-next (λ j. get_or pieces j 0) h.n d₀ d j v.is x d' l ex (rw ex (omega (arith, piece-below j l, (planned-ready bs h w).small))) st in
          record { within = next.within; few = v.few; is = next }

      pub piece_done : h.n ≤ j → length d₀ ≡ width * party_count (plan_of bs) → numbers d ≡ applied (plan_of bs).p (plan_of bs).t (plan_of bs).points mail
      piece_done l q =
          numbered-all (λ j. get_or pieces j 0) h.n d₀ d j v.is l (omega (arith, q, plan_n w))
          ∙ sym (is-tab (λ j. get_or pieces j 0) h.n (take h.n pieces) 0 (ap length e ∙ length-applied bs h w mail) (λ j m. get_or-take h.n pieces j 0 m))
          ∙ e

-- As it is: answers name this set, since the check leaves their goals open by `using` alone.
pub ruleset piecing = (rules, piece-none, piece_next, piece_done)

-- ---- the step that sends them
module _ (plan : Plan) (i g : ℕ) (step : Step) (e : step ≡ SendTruncated g) where
  pub cut_room : (out : List ℕ) → length out ≡ width * sent_by plan i step → length out ≡ width * party_count plan
  unfolding sent_by
  cut_room out q = q ∙ ap (λ (s : Step). width * sent_by plan i s) e

  pub cut_sent : (inputs coins triples shares mail xs : List ℕ) → xs ≡ applied plan.p plan.t plan.points mail → xs ≡ outgoing plan i step inputs coins triples shares mail
  unfolding send_at applied
  cut_sent inputs coins triples shares mail xs q = rw e (q ∙ sym (flat_ones (λ x. dot plan.p (row plan.p plan.t plan.points x) mail) plan.points))
