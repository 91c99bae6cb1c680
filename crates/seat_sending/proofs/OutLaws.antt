-- Laws of the shares of the outs, each sent to that out's party.
--     out_sending              an out
--     Outing, outing           the loop over the outs that writes those of one party
--     outs-length, gathering   the loop over the parties: every out is some party's
-- Assumes nothing.
use mathlib.Core.Path.{◌≡◌, refl, sym, ap, ap₂, ◌∙◌}
use mathlib.Core.Bool.{Bool, true, false, cond}
use mathlib.Core.List.{List, [], ◌∷◌, ◌++◌, map-append}
use Prim.Native.Nat.{ℕ, zero, suc, ◌+◌, ◌*◌, ◌<◌, ◌≤◌}
use native.Mathlib.Numerals.{add-one}
use native.Mathlib.Omega.{arith}
use borrow.Author.Rules.{rules}
use borrow.Author.Tests.{eq-eqb, ne_eqb, eqb-true, eqb-false}
use lib.Dec.{eqb, ltb}
use lib.ListN.{length, get_or, take, length-append}
use lib.Seq.{take-suc, take_all}
use Rattle.numbers.specs.Tables.{tab}
use Rattle.numbers.specs.Bytes.{width, limit, numbers, stored}
use Rattle.numbers.proofs.Tables.{tab-map, tab-ext}
use Rattle.numbers.proofs.Truth.{both_true}
use Rattle.plan.specs.declared.Output.{Output}
use Rattle.plan.specs.declared.Header.{Header}
use Rattle.plan.specs.Plans.{party_count, parties, out_wires_of, out_wires, sent_by}
use Rattle.plan.specs.File.{between, out_at, out_ok, plan_of}
use Rattle.plan.specs.Planned.{Planned}
use Rattle.plan.proofs.Wires.{out_wires_few}
use Rattle.plan.proofs.Planned.{plan_n, plan_outs, plan_out, between-true}
use Rattle.plan.proofs.Valid.{valid}
use Rattle.plan.specs.declared.Step.TheVariants.{SendOuts}
use Rattle.seat_messages.specs.Messages.{send_at}
use Rattle.seat_sending.specs.Sending.{Sent, out_shares, outgoing}
use Rattle.seat_sending.proofs.SendLaws.{sent-none, sent_more, sent_unless, sent_where, flat, flat-none, flat_next, Rows, rows_none, rows_next, rows_all, cond-cons, one_long}

-- ---- an out
module _ (party : ℕ) (o : Output) (at : ℕ) (old : List ℕ) where
  pub out_other : (v : ℕ) → (party ≡ o.party → ⊥) → Sent (cond (eqb party o.party) (v ∷ []) []) at old old at
  out_other v h = sent_unless (eqb party o.party) v at old (ne_eqb party o.party h)

  pub out_own : (v r : ℕ) (new : List ℕ) → party ≡ o.party → r ≡ v → r < limit → new ≡ stored old at r → Sent (cond (eqb party o.party) (v ∷ []) []) at old new (at + 1)
  out_own v r new h e l to = rw (← e) (sent_where (eqb party o.party) r at old new (eq-eqb party o.party h) to l)

pub ruleset out_sending = (rules, out_other, out_own)

-- ---- the loop over the outs: those of the party below o stand
wires_snoc : (party : ℕ) (os : List Output) (o : Output) → out_wires_of party (os ++ (o ∷ [])) ≡ out_wires_of party os ++ cond (eqb party o.party) (o.wire ∷ []) []
unfolding out_wires_of
wires_snoc party [] o = refl
wires_snoc party (q ∷ os) o =
    cond-cons (eqb party q.party) q.wire (out_wires_of party (os ++ (o ∷ []))) (out_wires_of party os) (cond (eqb party o.party) (o.wire ∷ []) []) (wires_snoc party os o)

cond_map : (shares : List ℕ) (b : Bool) (w : ℕ) → out_shares shares (cond b (w ∷ []) []) ≡ cond b (get_or shares w 0 ∷ []) []
unfolding out_shares
cond_map shares true w = refl
cond_map shares false w = refl

shares-append : (shares ws vs : List ℕ) → out_shares shares (ws ++ vs) ≡ out_shares shares ws ++ out_shares shares vs
unfolding out_shares
shares-append shares ws vs = map-append (λ w. get_or shares w 0) ws vs

pub record Outing (bs : List ℕ) (party : ℕ) (shares : List ℕ) (at : ℕ) (d₀ d : List ℕ) (place o : ℕ) : Type 0 where
  pub high : place ≤ at + o
  pub sent : Sent (out_shares shares (out_wires_of party (take o (plan_of bs).outs))) at d₀ d place

module _ (bs : List ℕ) (party : ℕ) (shares : List ℕ) (at : ℕ) where
  pub outs-none : (d : List ℕ) → Outing bs party shares at d d at 0
  unfolding out_shares out_wires_of
  outs-none d = record { high = omega arith; sent = sent-none d at }

  module _ (h : Header) (w : Planned bs h) (d₀ d : List ℕ) (place o : ℕ) (v : Outing bs party shares at d₀ d place o) where
    shares-next : (q : Output) → o < h.outs → q ≡ out_at bs o
        → out_shares shares (out_wires_of party (take (o + 1) (plan_of bs).outs))
        ≡ out_shares shares (out_wires_of party (take o (plan_of bs).outs)) ++ cond (eqb party q.party) (get_or shares q.wire 0 ∷ []) []
    shares-next q l e =
        let none : Output = record { party = 0; wire = 0 } in
        let is : get_or (plan_of bs).outs o none ≡ q = plan_out w o l ∙ sym e in
        ap (λ (os : List Output). out_shares shares (out_wires_of party os)) (ap (λ (n : ℕ). take n (plan_of bs).outs) (add-one o) ∙ take-suc (plan_of bs).outs o none (rw (plan_outs w) l) ∙ ap (λ (x : Output). take o (plan_of bs).outs ++ (x ∷ [])) is)
        ∙ ap (out_shares shares) (wires_snoc party (take o (plan_of bs).outs) q)
        ∙ shares-append shares (out_wires_of party (take o (plan_of bs).outs)) (cond (eqb party q.party) (q.wire ∷ []) [])
        ∙ ap (λ (l : List ℕ). out_shares shares (out_wires_of party (take o (plan_of bs).outs)) ++ l) (cond_map shares (eqb party q.party) q.wire)

    pub outs_next : (q : Output) (next : ℕ) (d' : List ℕ) → o < h.outs → q ≡ out_at bs o
        → Sent (cond (eqb party q.party) (get_or shares q.wire 0 ∷ []) []) place d d' next
        → Outing bs party shares at d₀ d' next (o + 1)
    outs_next q next d' l e to = record {
      high = omega (arith, v.high, to.place, one_long (eqb party q.party) (get_or shares q.wire 0));
      sent = rw (shares-next q l e) (sent_more _ _ d₀ d d' at place next v.sent to);
    }

    pub outs_done : h.outs ≤ o → Sent (out_shares shares (out_wires (plan_of bs) party)) at d₀ d place
    unfolding out_wires
    outs_done l = rw (take_all o (plan_of bs).outs (rw (plan_outs w) l)) at v.sent

-- As it is: answers name this set, since the check leaves their goals open by `using` alone.
pub ruleset outing = (rules, out_other, out_own, outs-none, outs_next, outs_done)

-- ---- the loop over the parties
-- 1 where a party is one of the parties 1 to n
unfoldable tally : ℕ → ℕ → ℕ
tally party zero = 0
tally party (suc n) = tally party n + cond (eqb (suc n) party) 1 0

tally-none : (party n : ℕ) → n < party → tally party n ≡ 0
unfolding tally
tally-none party zero l = refl
tally-none party (suc n) l = rw (ne_eqb (suc n) party (λ e. omega arith), tally-none party n (omega arith))

tally-one : (party n : ℕ) → 1 ≤ party → party ≤ n → tally party n ≡ 1
unfolding tally
tally-one party zero l m = absurd (omega arith)
tally-one party (suc n) l m = by (eqb (suc n) party) refl (λ ne. tally-one party n l (omega arith))
  where
    by : (b : Bool) → eqb (suc n) party ≡ b → ((suc n ≡ party → ⊥) → tally party n ≡ 1) → tally party n + cond (eqb (suc n) party) 1 0 ≡ 1
    by true e on = let q : suc n ≡ party = eqb-true (suc n) party e in rw (e, tally-none party n (omega arith))
    by false e on = rw (e, on (eqb-false (suc n) party e))

-- how many outs the parties 1 to n get
unfoldable total : List Output → ℕ → ℕ
total os zero = 0
total os (suc n) = total os n + length (out_wires_of (suc n) os)

total-none : (n : ℕ) → total [] n ≡ 0
unfolding total out_wires_of
total-none zero = refl
total-none (suc n) = rw (total-none n)

total-cons : (o : Output) (os : List Output) (n : ℕ) → total (o ∷ os) n ≡ tally o.party n + total os n
unfolding total tally out_wires_of
total-cons o os zero = refl
total-cons o os (suc n) = rw (total-cons o os n) (by (eqb (suc n) o.party) (out_wires_of (suc n) os))
  where
    by : (b : Bool) (ws : List ℕ)
        → tally o.party n + total os n + length (cond b (o.wire ∷ ws) ws) ≡ tally o.party n + cond b 1 0 + (total os n + length ws)
    by true ws = omega arith
    by false ws = omega arith

total_all : (n k : ℕ) (os : List Output) → ((o : ℕ) → o < length os → out_ok n k (get_or os o (record { party = 0; wire = 0 })) ≡ true) → total os n ≡ length os
unfolding out_ok
total_all n k [] h = total-none n
total_all n k (o ∷ os) h =
    let b = between-true 1 n o.party (both_true (between 1 n o.party) (ltb o.wire k) (h 0 (omega arith))).0 in
    total-cons o os n ∙ omega (arith, tally-one o.party n b.0 b.1, total_all n k os (λ i l. h (suc i) (omega arith)))

outs_long : (shares ws : List ℕ) → length (out_shares shares ws) ≡ length ws
unfolding out_shares
outs_long shares [] = refl
outs_long shares (w ∷ ws) = ap suc (outs_long shares ws)

rows-total : (shares : List ℕ) (os : List Output) (n : ℕ) → length (flat (tab (λ j. out_shares shares (out_wires_of (suc j) os)) n)) ≡ total os n
unfolding total
rows-total shares os zero = ap length (flat-none (λ j. out_shares shares (out_wires_of (suc j) os)))
rows-total shares os (suc n) =
    let row : ℕ → List ℕ = λ j. out_shares shares (out_wires_of (suc j) os) in
    ap (λ (m : ℕ). length (flat (tab row m))) (sym (add-one n))
    ∙ ap length (flat_next row n)
    ∙ length-append (flat (tab row n)) (row n)
    ∙ ap₂ (λ (a b : ℕ). a + b) (rows-total shares os n) (outs_long shares (out_wires_of (suc n) os))

module _ (bs : List ℕ) (h : Header) (w : Planned bs h) (shares : List ℕ) where
  pub outs_few : (party : ℕ) → length (out_shares shares (out_wires (plan_of bs) party)) ≤ 64
  unfolding out_wires
  outs_few party = omega (arith, outs_long shares (out_wires_of party (plan_of bs).outs), out_wires_few party (plan_of bs).outs, plan_outs w, w.outs-high)

  outs-total : length (flat (tab (λ j. out_shares shares (out_wires (plan_of bs) (j + 1))) h.n)) ≡ h.outs
  unfolding out_wires
  outs-total =
      ap length (ap flat (tab-ext (λ j. out_shares shares (out_wires_of (j + 1) (plan_of bs).outs)) (λ j. out_shares shares (out_wires_of (suc j) (plan_of bs).outs)) h.n (λ j l. ap (λ (m : ℕ). out_shares shares (out_wires_of m (plan_of bs).outs)) (add-one j))))
      ∙ rows-total shares (plan_of bs).outs h.n
      ∙ total_all h.n (length (plan_of bs).gates) (plan_of bs).outs (rw (← plan_n w) (valid bs w.passes).outs)
      ∙ plan_outs w

  by_receiver : (i : ℕ) (inputs coins triples mail : List ℕ) → send_at (plan_of bs) i SendOuts inputs coins triples shares mail ≡ tab (λ j. out_shares shares (out_wires (plan_of bs) (j + 1))) h.n
  unfolding send_at parties out_shares
  by_receiver i inputs coins triples mail =
      let row : ℕ → List ℕ = λ i. out_shares shares (out_wires (plan_of bs) i) in
      tab-map row suc (party_count (plan_of bs))
      ∙ ap (tab (λ j. row (suc j))) (plan_n w)
      ∙ tab-ext (λ j. row (suc j)) (λ j. row (j + 1)) h.n (λ j l. ap row (sym (add-one j)))

  pub outs_sent : (d₀ d : List ℕ) (at j : ℕ) → Rows (λ j. out_shares shares (out_wires (plan_of bs) (j + 1))) 64 h.n d₀ d at j → h.n ≤ j → (i : ℕ) → length d₀ ≡ width * sent_by (plan_of bs) i SendOuts
      → (inputs coins triples mail : List ℕ) → numbers d ≡ outgoing (plan_of bs) i SendOuts inputs coins triples shares mail
  unfolding sent_by
  outs_sent d₀ d at j r l i e inputs coins triples mail =
      rows_all (λ j. out_shares shares (out_wires (plan_of bs) (j + 1))) 64 h.n d₀ d at j r l (e ∙ rw (plan_outs w, outs-total)) ∙ sym (ap flat (by_receiver i inputs coins triples mail))

-- As it is: answers name this set, since the check leaves their goals open by `using` alone.
pub ruleset gathering = (rules, outs_few, rows_none, rows_next, outs_sent)
