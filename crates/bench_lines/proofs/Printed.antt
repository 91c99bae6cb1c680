-- Laws of the lines that are read off the numbers of a view.
--     refused-line, plan-line, sent-line      lines of a few numbers
--     Rounding, rounding                      the loop over a party's rounds
--     membering                               a party's lines
--     Parting, parting                        where a party's view begins
--     partying, Calling, calling              the loop over the parties
--     Before, earlier, placing                where an out's result stands
--     outing, Outing, outing_all_outs         the loop over the outs
--     run_lines_lem                               the lines of a run
-- Assumes nothing.
use mathlib.Core.Path.{◌≡◌, refl, sym, ap, ◌∙◌}
use mathlib.Core.Bool.{Bool, true, false, cond}
use mathlib.Core.List.{List, [], ◌∷◌, ◌++◌, flat_map}
use Prim.Native.Nat.{ℕ, suc, ◌+◌, ◌-◌, ◌*◌, ◌<◌, ◌≤◌}
use native.Mathlib.Numerals.{add-one}
use native.Mathlib.Nat.{sub-zero}
use native.Mathlib.Omega.{arith}
use borrow.Author.Rules.{rules}
use borrow.Author.Tests.{not-true, not-false, leb-true, leb-false}
use mir.Syntax.{w16}
use mir.Val.{Fits, bool_byte}
use lib.Dec.{eqb, leb}
use lib.ListN.{length, take, drop, get_or, length-append, drop_of_length-le}
use lib.Seq.{drop-drop, take-suc, drop-cons}
use Rattle.numbers.specs.Tables.{total}
use Rattle.plan.specs.declared.Header.{Header}
use Rattle.plan.specs.declared.Output.{Output}
use Rattle.plan.specs.declared.Refusal.{Refusal}
use Rattle.plan.specs.Refusals.{number_of, place_of}
use Rattle.plan.specs.Plans.{Plan, last_call, mail_count, sent_count, own_input_count, own_coin_count, own_out_count, out_wires_of}
use Rattle.plan.specs.File.{plan_of, out_at}
use Rattle.plan.specs.Planned.{Planned}
use Rattle.plan_coalition.specs.Coalitions.{in_set, members_from, members}
use Rattle.plan.proofs.Planned.{plan_t, plan_p, plan_n, plan_gates, plan_outs, plan_out}
use Rattle.plan_coalition.proofs.Coalitions.{bit_past}
use Rattle.run_protocol.specs.Rounds.{view_count_of, view_count}
use Rattle.bench_text.specs.Decimals.{line}
use Rattle.bench_lines.specs.Report.{plan_word, view_word, round_word, out_word, sent_word, refused_word, plan_line}
use Rattle.bench_text.specs.Texts.{Put}
use Rattle.bench_lines.specs.Placed.{round_lines_in, own_count, member_lines_in, part_at, results_at, member_part, out_line_in, out_lines_in, run_lines_in}
use Rattle.bench_lines.proofs.Parts.{members_split, wires-append}
use Rattle.bench_text.proofs.Appending.{put-nothing, put_then, Left, left_all, left_then, left_end}

-- ---- lines of a few numbers
pub refused-line :
    (r : Refusal) (x y at e : ℕ) (old new : List ℕ) → x ≡ number_of r → y ≡ place_of r → Put (line refused_word (x ∷ y ∷ [])) at old new e
    → Put (line refused_word (number_of r ∷ place_of r ∷ [])) at old new e
refused-line r x y at e old new p q w = rw (← p, ← q) w

pub plan-line :
    (bs : List ℕ) (h : Header) (at e : ℕ) (old new : List ℕ) → Planned bs h
    → Put (line plan_word (h.n ∷ h.t ∷ h.field.p ∷ h.gates ∷ h.outs ∷ [])) at old new e → Put (plan_line (plan_of bs)) at old new e
unfolding plan_line
plan-line bs h at e old new p w = rw (plan_n p, plan_t p, plan_p p, plan_gates p, plan_outs p) w

pub sent-line :
    (plan : Plan) (s at e : ℕ) (old new : List ℕ) → s ≡ sent_count plan → Put (line sent_word (s ∷ [])) at old new e
    → Put (line sent_word (sent_count plan ∷ [])) at old new e
sent-line plan s at e old new p w = rw (← p) w

pub ruleset fewing = (rules, refused-line, plan-line, sent-line)

-- ---- the loop over the rounds: k of them are printed, and the mail of round k begins at `place`
pub record Rounding (plan : Plan) (i : ℕ) (vs : List ℕ) (from rounds at : ℕ) (old new : List ℕ) (next place k : ℕ) : Type 0 where
  pub within : k ≤ rounds
  pub near : place ≤ from + 1024 * k
  pub left : Left (round_lines_in plan i (drop from vs) 0 rounds) at old new next (round_lines_in plan i (drop place vs) k (rounds - k))

module _ (plan : Plan) (i : ℕ) (vs : List ℕ) (from rounds at : ℕ) (old : List ℕ) where
  pub rounds_all : at ≤ length old → Rounding plan i vs from rounds at old old at from 0
  rounds_all h =
      record {
        within = omega arith;
        near = omega arith;
        left = left_all (round_lines_in plan i (drop from vs) 0 rounds) at old (round_lines_in plan i (drop from vs) 0 (rounds - 0)) (rw (sub-zero rounds)) h;
      }

  rounds-cons : (place k : ℕ) → k < rounds
      → round_lines_in plan i (drop place vs) k (rounds - k)
      ≡ line round_word (k ∷ take (mail_count plan i (k + 1)) (drop place vs)) ++ round_lines_in plan i (drop (place + mail_count plan i (k + 1)) vs) (k + 1) (rounds - (k + 1))
  unfolding round_lines_in
  rounds-cons place k l =
      let e : rounds - k ≡ suc (rounds - (k + 1)) = omega arith in
      rw (e, add-one k, drop-drop (mail_count plan i (suc k)) place vs)

  module _ (new : List ℕ) (next place k : ℕ) (h : Rounding plan i vs from rounds at old new next place k) where
    pub rounds_next : (count : ℕ) (new' : List ℕ) (next' : ℕ) → Put (line round_word (k ∷ take count (drop place vs))) next new new' next'
        → count ≡ mail_count plan i (k + 1) → count ≤ 1024 → k < rounds
        → Rounding plan i vs from rounds at old new' next' (place + count) (k + 1)
    rounds_next count new' next' w e few l =
        record {
          within = omega arith;
          near = omega (arith, h.near);
          left =
              left_then (round_lines_in plan i (drop from vs) 0 rounds) at old new next (round_lines_in plan i (drop place vs) k (rounds - k)) h.left
              (line round_word (k ∷ take count (drop place vs))) (round_lines_in plan i (drop (place + count) vs) (k + 1) (rounds - (k + 1))) new' next'
              (rw e (rounds-cons place k l)) w;
        }

    pub rounds_end : rounds ≤ k → rounds ≡ last_call plan → Put (round_lines_in plan i (drop from vs) 0 (last_call plan)) at old new next
    unfolding round_lines_in
    rounds_end l e =
        let z : rounds - k ≡ 0 = omega arith in
        rw (← e) (left_end (round_lines_in plan i (drop from vs) 0 rounds) at old new next (round_lines_in plan i (drop place vs) k (rounds - k)) h.left (rw z))

pub ruleset rounding = (rules, rounds_all, rounds_next, rounds_end)

-- ---- a member
pub own_eq : (plan : Plan) (i a c : ℕ) → a ≡ own_input_count plan i → c ≡ own_coin_count plan i → a + c ≡ own_count plan i
unfolding own_count
own_eq plan i a c e f = rw (e, f)

pub member_lines_lem :
    (plan : Plan) (i : ℕ) (vs : List ℕ) (from count at m e : ℕ) (old mid new : List ℕ)
    → Put (line view_word (i ∷ take count (drop from vs))) at old mid m → count ≡ own_count plan i
    → Put (round_lines_in plan i (drop (from + count) vs) 0 (last_call plan)) m mid new e
    → Put (member_lines_in plan i (drop from vs)) at old new e
unfolding member_lines_in
member_lines_lem plan i vs from count at m e old mid new a c b =
    rw (← c, drop-drop count from vs)
    (put_then (line view_word (i ∷ take count (drop from vs))) (round_lines_in plan i (drop (from + count) vs) 0 (last_call plan)) at m e old mid new a b)

pub ruleset membering = (rules, own_eq, member_lines_lem)

-- ---- where a member's view begins
view_count-append : (plan : Plan) (a b : List ℕ) → view_count plan (a ++ b) ≡ view_count plan a + view_count plan b
unfolding view_count total
view_count-append plan [] b = omega arith
view_count-append plan (x ∷ a) b = omega (arith, view_count-append plan a b)

-- the loop over the parties below i: those below j are counted
pub record Parting (plan : Plan) (set i k j : ℕ) : Type 0 where
  pub low : 1 ≤ j
  pub high : j - 1 ≤ i - 1
  pub few : k + 68608 ≤ 68608 * j
  pub is : k ≡ view_count plan (members_from set 1 (j - 1))

pub part_none : (plan : Plan) (set i : ℕ) → Parting plan set i 0 1
unfolding members_from view_count total
part_none plan set i = record { low = omega arith; high = omega arith; few = omega arith; is = refl }

counted : (plan : Plan) (b : Bool) (j : ℕ) → view_count plan (cond b (j ∷ []) []) ≡ cond b (view_count_of plan j) 0
unfolding view_count total
counted plan true j = omega arith
counted plan false j = refl

module _ (plan : Plan) (set i k j : ℕ) (h : Parting plan set i k j) where
  pub part_next : (d : ℕ) → j < i → d ≡ cond (in_set set j) (view_count_of plan j) 0 → d ≤ 68608 → Parting plan set i (k + d) (j + 1)
  unfolding members_from
  part_next d l e m =
      let q : j + 1 - 1 ≡ j - 1 + 1 = omega (arith, h.low) in
      let r : 1 + (j - 1) ≡ j = omega (arith, h.low) in
      record {
        low = omega arith;
        high = omega arith;
        few = omega (arith, h.few);
        is =
            sym
            (ap (λ (n : ℕ). view_count plan (members_from set 1 n)) q
            ∙ ap (view_count plan) (members_split set (j - 1) 1 1)
            ∙ view_count-append plan (members_from set 1 (j - 1)) (members_from set (1 + (j - 1)) 1)
            ∙ rw (r, counted plan (in_set set j) j, ← e) (ap (λ (n : ℕ). n + d) (sym h.is)));
      }

  pub part_done : i ≤ j → k ≡ part_at plan set i
  unfolding part_at
  part_done l = let e : j - 1 ≡ i - 1 = omega (arith, h.low, h.high) in h.is ∙ ap (λ (n : ℕ). view_count plan (members_from set 1 n)) e

  pub part_few : i ≤ 16 → k ≤ 1097728
  part_few l = omega (arith, h.few, h.high, h.low)

-- As it is: answers name this set, since the check leaves their goals open by `using` alone.
pub ruleset parting = (rules, part_none, part_next, part_done, part_few)

-- ---- a party's lines, where it is a member
pub member_few : (set i : ℕ) (b : Bool) → b ≡ in_set set i → b ≡ true → Fits w16 set → i ≤ 16
member_few set i b e f s = leb-true i 16 (pick (leb i 16) refl)
  where
    pick : (t : Bool) → leb i 16 ≡ t → leb i 16 ≡ true
    pick true q = q
    pick false q = let z : ◌≡◌ {A = ℕ} 0 1 = cc (bit_past set i s (leb-false i 16 q)) in absurd (omega arith)

module _ (plan : Plan) (set i : ℕ) (vs : List ℕ) (at : ℕ) (old : List ℕ) (b : Bool) (e : b ≡ in_set set i) where
  pub party-none : b ≡ false → at ≤ length old → Put (cond (in_set set i) (member_part plan set vs i) []) at old old at
  party-none f h = rw (← e, f) (put-nothing at old h)

  pub party_lines : (from r : ℕ) (new : List ℕ) → b ≡ true → from ≡ part_at plan set i → Put (member_lines_in plan i (drop from vs)) at old new r → Put (cond (in_set set i) (member_part plan set vs i) []) at old new r
  unfolding member_part
  party_lines from r new f p w = rw (← e, f, ← p) w

pub ruleset partying = (rules, not-true, not-false, member_few, party-none, party_lines)

-- ---- the loop over the parties
module _ (f : ℕ → List ℕ) (set : ℕ) where
  -- parties below i are printed
  pub record Calling (at : ℕ) (old new : List ℕ) (next i : ℕ) : Type 0 where
    pub low : 1 ≤ i
    pub high : i ≤ 17
    pub left : Left (flat_map f (members set)) at old new next (flat_map f (members_from set i (17 - i)))

  pub calling_all : (at : ℕ) (old : List ℕ) → at ≤ length old → Calling at old old at 1
  unfolding members
  calling_all at old h = record { low = omega arith; high = omega arith; left = left_all (flat_map f (members set)) at old (flat_map f (members_from set 1 16)) refl h }

  calling-cons : (i : ℕ) → i ≤ 16 → flat_map f (members_from set i (17 - i)) ≡ cond (in_set set i) (f i) [] ++ flat_map f (members_from set (i + 1) (17 - (i + 1)))
  unfolding members_from flat_map
  calling-cons i l =
      let q : 17 - i ≡ suc (17 - (i + 1)) = omega arith in
      ap (λ (n : ℕ). flat_map f (members_from set i n)) q ∙ rw (← add-one i) (pick (in_set set i) (members_from set (i + 1) (17 - (i + 1))))
    where
      pick : (t : Bool) (ms : List ℕ) → flat_map f (cond t (i ∷ ms) ms) ≡ cond t (f i) [] ++ flat_map f ms
      pick true ms = refl
      pick false ms = refl

  module _ (at : ℕ) (old new : List ℕ) (next i : ℕ) (h : Calling at old new next i) where
    pub calling-next : (new' : List ℕ) (next' : ℕ) → Put (cond (in_set set i) (f i) []) next new new' next' → i ≤ 16 → Calling at old new' next' (i + 1)
    calling-next new' next' w l =
        record {
          low = omega arith;
          high = omega arith;
          left =
              left_then (flat_map f (members set)) at old new next (flat_map f (members_from set i (17 - i))) h.left (cond (in_set set i) (f i) [])
              (flat_map f (members_from set (i + 1) (17 - (i + 1)))) new' next' (calling-cons i l) w;
        }

    pub calling-end : 16 < i → Put (flat_map f (members set)) at old new next
    unfolding members_from flat_map
    calling-end l =
        let e : 17 - i ≡ 0 = omega (arith, h.high) in
        left_end (flat_map f (members set)) at old new next (flat_map f (members_from set i (17 - i))) h.left (rw e)

pub ruleset calling = (rules, calling_all, calling-next, calling-end)

-- ---- outs
one_out : (i : ℕ) (x : Output) → length (out_wires_of i (x ∷ [])) ≡ bool_byte (eqb i x.party)
unfolding out_wires_of
one_out i x = pick (eqb i x.party)
  where
    pick : (t : Bool) → length (cond t (x.wire ∷ []) []) ≡ bool_byte t
    pick true = refl
    pick false = refl

at_most_one : (t : Bool) → bool_byte t ≤ 1
at_most_one true = omega arith
at_most_one false = omega arith

-- the loop over the outs before out o: of the first k, `count` are party i's
pub record Before (bs : List ℕ) (i o count k : ℕ) : Type 0 where
  pub within : k ≤ o
  pub le : count ≤ k
  pub is : count ≡ length (out_wires_of i (take k (plan_of bs).outs))

pub before-none : (bs : List ℕ) (i o : ℕ) → Before bs i o 0 0
unfolding out_wires_of
before-none bs i o = record { within = omega arith; le = omega arith; is = refl }

module _ {bs : List ℕ} {h : Header} (p : Planned bs h) where
  outs-take : (k : ℕ) → k < h.outs → take (suc k) (plan_of bs).outs ≡ take k (plan_of bs).outs ++ (out_at bs k ∷ [])
  outs-take k l = take-suc (plan_of bs).outs k (record { party = 0; wire = 0 }) (rw (plan_outs p) l) ∙ ap (λ (x : Output). take k (plan_of bs).outs ++ (x ∷ [])) (plan_out p k l)

  outs-drop : (k : ℕ) → k < h.outs → drop k (plan_of bs).outs ≡ out_at bs k ∷ drop (suc k) (plan_of bs).outs
  outs-drop k l = drop-cons (plan_of bs).outs k (record { party = 0; wire = 0 }) (rw (plan_outs p) l) ∙ ap (λ (x : Output). x ∷ drop (suc k) (plan_of bs).outs) (plan_out p k l)

  pub before_next : (i o count k : ℕ) → Before bs i o count k → o ≤ h.outs → k < o → (out : Output) (one : ℕ) → out ≡ out_at bs k → one ≡ bool_byte (eqb i out.party) → Before bs i o (count + one) (k + 1)
  before_next i o count k s m l out one eo e1 =
      record {
        within = omega arith;
        le = omega (arith, s.le, e1, at_most_one (eqb i out.party));
        is =
            sym
            (ap (λ (n : ℕ). length (out_wires_of i (take n (plan_of bs).outs))) (add-one k)
            ∙ ap (λ (os : List Output). length (out_wires_of i os)) (outs-take k (omega arith))
            ∙ ap length (wires-append i (take k (plan_of bs).outs) (out_at bs k ∷ []))
            ∙ length-append (out_wires_of i (take k (plan_of bs).outs)) (out_wires_of i (out_at bs k ∷ []))
            ∙ rw (one_out i (out_at bs k), ← eo, ← e1) (ap (λ (n : ℕ). n + one) (sym s.is)));
      }

  pub before_done : (i o count k : ℕ) → Before bs i o count k → o ≤ k → count ≡ length (out_wires_of i (take o (plan_of bs).outs))
  before_done i o count k s l = let e : k ≡ o = omega (arith, s.within) in s.is ∙ ap (λ (n : ℕ). length (out_wires_of i (take n (plan_of bs).outs))) e

  pub before_few : (i o count k : ℕ) → Before bs i o count k → o ≤ h.outs → count ≤ 64
  before_few i o count k s l = omega (arith, s.le, s.within, p.outs-high)

-- As it is: answers name this set, since the check leaves their goals open by `using` alone.
pub ruleset earlier = (rules, before-none, before_next, before_done, before_few)

-- ---- where a party's results begin
module _ (plan : Plan) (set i count outs at : ℕ) (eo : outs ≡ own_out_count plan i) (ec : count ≡ view_count_of plan i) where
  pub results_behind : outs ≤ count
  unfolding view_count_of
  results_behind = rw (eo, ec) (omega arith)

  pub results_place : at ≡ part_at plan set i → at + (count - outs) ≡ results_at plan set i
  unfolding results_at
  results_place e = rw (e, eo, ec)

pub ruleset placing = (rules, results_behind, results_place)

-- ---- the line of an out
module _ (bs : List ℕ) (set : ℕ) (vs : List ℕ) (o at : ℕ) (old : List ℕ) (out : Output) (eo : out ≡ out_at bs o) (b : Bool) (e : b ≡ in_set set out.party) where
  pub out_none : b ≡ false → at ≤ length old → Put (out_line_in (plan_of bs) set vs o (take o (plan_of bs).outs) (out_at bs o)) at old old at
  unfolding out_line_in
  out_none f h = rw (← eo, ← e, f) (put-nothing at old h)

  pub out_line :
      (place before v r : ℕ) (new : List ℕ) → b ≡ true → place ≡ results_at (plan_of bs) set out.party
      → before ≡ length (out_wires_of out.party (take o (plan_of bs).outs)) → v ≡ get_or vs (place + before) 0
      → Put (line out_word (o ∷ out.party ∷ v ∷ [])) at old new r
      → Put (out_line_in (plan_of bs) set vs o (take o (plan_of bs).outs) (out_at bs o)) at old new r
  unfolding out_line_in
  out_line place before v r new f ep eb ev w = rw (← eo, ← e, f, ← ep, ← eb, ← ev) w

pub ruleset outing = (rules, not-true, not-false, member_few, out_none, out_line)

-- ---- the loop over the outs: those below o are printed
module _ (bs : List ℕ) (set : ℕ) (vs : List ℕ) where
  abbrev outs_from : ℕ → List ℕ
  outs_from o = out_lines_in (plan_of bs) set vs o (take o (plan_of bs).outs) (drop o (plan_of bs).outs)

  pub record Outing (outs at : ℕ) (old new : List ℕ) (next o : ℕ) : Type 0 where
    pub within : o ≤ outs
    pub left : Left (out_lines_in (plan_of bs) set vs 0 [] (plan_of bs).outs) at old new next (outs_from o)

  pub outing_all : (outs at : ℕ) (old : List ℕ) → at ≤ length old → Outing outs at old old at 0
  outing_all outs at old h =
      record { within = omega arith; left = left_all (out_lines_in (plan_of bs) set vs 0 [] (plan_of bs).outs) at old (out_lines_in (plan_of bs) set vs 0 [] (plan_of bs).outs) refl h }

  outing-cons : (h : Header) → Planned bs h → (o : ℕ) → o < h.outs → outs_from o ≡ out_line_in (plan_of bs) set vs o (take o (plan_of bs).outs) (out_at bs o) ++ outs_from (o + 1)
  unfolding out_lines_in
  outing-cons h p o l = rw (add-one o, outs-drop p o l, ← outs-take p o l)

  module _ (h : Header) (p : Planned bs h) (at : ℕ) (old new : List ℕ) (next o : ℕ) (s : Outing h.outs at old new next o) where
    pub outing-next : (new' : List ℕ) (next' : ℕ) → Put (out_line_in (plan_of bs) set vs o (take o (plan_of bs).outs) (out_at bs o)) next new new' next' → o < h.outs
        → Outing h.outs at old new' next' (o + 1)
    outing-next new' next' w l =
        record {
          within = omega arith;
          left =
              left_then (out_lines_in (plan_of bs) set vs 0 [] (plan_of bs).outs) at old new next (outs_from o) s.left
              (out_line_in (plan_of bs) set vs o (take o (plan_of bs).outs) (out_at bs o)) (outs_from (o + 1)) new' next' (outing-cons h p o l) w;
        }

    pub outing-end : h.outs ≤ o → Put (out_lines_in (plan_of bs) set vs 0 [] (plan_of bs).outs) at old new next
    unfolding out_lines_in
    outing-end l =
        left_end (out_lines_in (plan_of bs) set vs 0 [] (plan_of bs).outs) at old new next (outs_from o) s.left
        (rw (drop_of_length-le (plan_of bs).outs {i = o} (rw (plan_outs p) l)))

-- As it is: answers name this set, since the check leaves their goals open by `using` alone.
pub ruleset outing_all_outs = (rules, outing_all, outing-next, outing-end)

-- ---- the lines of a run
pub run_lines_lem :
    (plan : Plan) (set : ℕ) (vs : List ℕ) (at a b c r : ℕ) (old s t u new : List ℕ)
    → Put (plan_line plan) at old s a → Put (flat_map (member_part plan set vs) (members set)) a s t b → Put (out_lines_in plan set vs 0 [] plan.outs) b t u c
    → Put (line sent_word (sent_count plan ∷ [])) c u new r → Put (run_lines_in plan set vs) at old new r
unfolding run_lines_in
run_lines_lem plan set vs at a b c r old s t u new k l m n =
    put_then (plan_line plan) _ at a r old s new k (put_then (flat_map (member_part plan set vs) (members set)) _ a b r s t new l (put_then (out_lines_in plan set vs 0 [] plan.outs) _ b c r t u new m n))

-- As it is: answers name this set, since the check leaves their goals open by `using` alone.
pub ruleset all_lines = (rules, run_lines_lem)
