-- The same view is the same piece by piece, since the plan fixes how many numbers each piece has.
--     flat_split                                lists of the same lengths, joined to the same, are the same
--     all-pieces                                two runs of which the coalition has the same view
--     same_pieces                               the claim
-- Assumes nothing.
use Rattle.std.proofs.Common.{Ok}
use Prim.Native.Nat.{ℕ, zero, suc, ◌≤◌, ◌^◌}
use mathlib.Core.Path.{◌≡◌, refl, sym, ap, ap₂, ◌∙◌}
use mathlib.Core.Bool.{true}
use mathlib.Core.List.{List, [], ◌∷◌, ◌++◌, map, flat_map, append-nil}
use native.Mathlib.Omega.{arith}
use borrow.Author.Tests.{ltb-true}
use lib.Dec.{ltb, leb}
use lib.ListN.{length, get_or, length-append}
use Rattle.numbers.specs.Tables.{tab}
use Rattle.numbers.proofs.Tables.{length-tab, get_or-tab}
use Rattle.numbers.proofs.Truth.{both_true}
use Rattle.sharing_laws.specs.Interp.{All}
use Rattle.sharing_laws.proofs.Alls.{all-tab}
use Rattle.sharing_laws.proofs.Lists.{length-map, get_or-map-in}
use Rattle.plan.specs.Plans.{Plan, party_count, kind_count, last_call, input_owners, coin_owners, own_inputs, own_coins, out_wires, mail_count}
use Rattle.plan.specs.File.{plan_check, plan_of}
use Rattle.plan.proofs.Valid.{valid}
use Rattle.plan_coalition.specs.Coalitions.{in_set, members, set_ok}
use Rattle.run_protocol.specs.Rounds.{mail_to, after, results, mails, view_of, view, view_count}
use Rattle.run_protocol.specs.Ideal.{values, granted}
use Rattle.run_protocol.specs.Settings.{Full, Coins}
use Rattle.run_protocol.proofs.Counts.{mail_count_lem}
use Rattle.run_protocol.proofs.Owners.{length-own}
use Rattle.match_privacy.specs.Matching.{matched_coins}
use Rattle.match_privacy.specs.Bijections.{Private}
use Rattle.match_privacy.proofs.SetMembers.{in_below}
use Rattle.match_joint.specs.JointLists.{draws_of, preparing_coins, main_coins, joint_triples, joint_held}
use Rattle.match_joint.specs.Joint.{matched_joint}
use Rattle.match_prepared.specs.PreparedCalls.{preparing_count, joint_count, prepared_ok}
use Rattle.demands.specs.Demands.{Given, Alike}
use Rattle.demands.specs.Further.{Pieces, SamePieces}
use Rattle.demands.proofs.Second.{empty, whole}
use Rattle.demands.proofs.Third.{each_member, front_same, back_same, runs_private}
use Rattle.demands.proofs.Computed.{given_alone, prep_set, private, preparing_given, main_given, moved_full, views_same}
use Rattle.demands.proofs.Agreeing.{at-member}
use Rattle.demands.proofs.Bounds.{parties-few}

-- ---- lists of the same lengths
flat_split : (f g : ℕ → List ℕ) (is : List ℕ) → All (λ i. length (f i) ≡ length (g i)) is → flat_map f is ≡ flat_map g is → map f is ≡ map g is
unfolding flat_map
flat_split f g [] l e = refl
flat_split f g (i ∷ is) l e =
    ap₂ (λ (x : List ℕ) (r : List (List ℕ)). x ∷ r) (front_same (f i) (flat_map f is) (g i) (flat_map g is) l.0 e)
    (flat_split f g is l.1 (back_same (f i) (flat_map f is) (g i) (flat_map g is) l.0 e))

-- ---- what holds for the list of members holds for each of them
module _ (plan : Plan) (set i : ℕ) (ok : set_ok plan set ≡ true) (n-high : party_count plan ≤ 16) (from1 : 1 ≤ i) (on : in_set set i ≡ true) where
  member_upto : i ≤ party_count plan
  unfolding set_ok
  member_upto = in_below set (party_count plan) i (ltb-true set (2 ^ party_count plan) (both_true (ltb set (2 ^ party_count plan)) (leb (length (members set)) plan.t) ok).0) on

  at_i : {B : Type 0} (f g : ℕ → B) → map f (members set) ≡ map g (members set) → f i ≡ g i
  at_i f g e = at-member f g set i on from1 (omega (arith, member_upto)) e

-- ---- two runs of which the coalition has the same view, and a member the same inputs and coins
module _ (bytes : List ℕ) (set : ℕ) (ok : set_ok (plan_of bytes) set ≡ true) (xs c ts ys d us : List ℕ) (first : Given bytes xs c ts) (second : Given bytes ys d us)
    (same : view (plan_of bytes) (members set) xs c ts ≡ view (plan_of bytes) (members set) ys d us) (i : ℕ) (from1 : 1 ≤ i) (on : in_set set i ≡ true)
    (inputs-same : own_inputs (plan_of bytes) i xs ≡ own_inputs (plan_of bytes) i ys) (coins-same : own_coins (plan_of bytes) i c ≡ own_coins (plan_of bytes) i d) where
  abbrev plan : Plan
  plan = plan_of bytes

  n-high : party_count plan ≤ 16
  n-high = omega (arith, parties-few bytes first.passes)

  upto : i ≤ party_count plan
  upto = member_upto plan set i ok n-high from1 on

  -- a party's view has the plan's count
  view_long : (zs e us : List ℕ) → Given bytes zs e us → (j : ℕ) → 1 ≤ j → j ≤ party_count plan → length (view_of plan zs e us j) ≡ view_count plan (j ∷ [])
  unfolding view flat_map
  view_long zs e us g j l m = sym (ap length (append-nil (view_of plan zs e us j))) ∙ (whole bytes zs e us g).seen (j ∷ []) ((l, m), tt)

  views-split : map (view_of plan xs c ts) (members set) ≡ map (view_of plan ys d us) (members set)
  unfolding view
  views-split =
      flat_split (view_of plan xs c ts) (view_of plan ys d us) (members set)
      (each_member (λ j. length (view_of plan xs c ts j) ≡ length (view_of plan ys d us j)) plan set ok
      (λ j l m e. view_long xs c ts first j l m ∙ sym (view_long ys d us second j l m)))
      same

  -- and so have its results
  results_long : (zs e us : List ℕ) → Given bytes zs e us → length (results plan zs e us i) ≡ length (out_wires plan i)
  unfolding granted
  results_long zs e us g = ap length ((whole bytes zs e us g).correct i from1 upto) ∙ length-map (λ w. get_or (values plan zs) w 0) (out_wires plan i)

  rest_same : mails plan xs c ts i ++ results plan xs c ts i ≡ mails plan ys d us i ++ results plan ys d us i
  unfolding view_of
  rest_same =
      back_same (own_coins plan i c) _ (own_coins plan i d) _ (ap length coins-same)
      (back_same (own_inputs plan i xs) _ (own_inputs plan i ys) _ (ap length inputs-same) (at_i plan set i ok n-high from1 on (view_of plan xs c ts) (view_of plan ys d us) views-split))

  mails_long : length (mails plan xs c ts i) ≡ length (mails plan ys d us i)
  mails_long =
      omega (
        arith,
        ap (λ (l : List ℕ). length l) rest_same,
        results_long xs c ts first,
        results_long ys d us second,
        length-append (mails plan xs c ts i) (results plan xs c ts i),
        length-append (mails plan ys d us i) (results plan ys d us i),
      )

  mails-same : mails plan xs c ts i ≡ mails plan ys d us i
  mails-same = front_same (mails plan xs c ts i) (results plan xs c ts i) (mails plan ys d us i) (results plan ys d us i) mails_long rest_same

  mail_long : (zs e us : List ℕ) (k : ℕ) → k ≤ last_call plan → length (mail_to i (after plan zs e us k)) ≡ mail_count plan i k
  mail_long zs e us k l = mail_count_lem plan (valid bytes first.passes) zs e us i from1 upto k l

  no_mail : (zs e us : List ℕ) → mail_to i (after plan zs e us 0) ≡ []
  unfolding mail_count
  no_mail zs e us = empty (mail_to i (after plan zs e us 0)) (mail_long zs e us 0 (omega arith))

  round_same : (k : ℕ) → k ≤ last_call plan → mail_to i (after plan xs c ts k) ≡ mail_to i (after plan ys d us k)
  unfolding mails
  round_same zero l = no_mail xs c ts ∙ sym (no_mail ys d us)
  round_same (suc k) l =
      let n : ℕ = last_call plan in
      let f : ℕ → List ℕ = λ k. mail_to i (after plan xs c ts (suc k)) in
      let g : ℕ → List ℕ = λ k. mail_to i (after plan ys d us (suc k)) in
      let e : map f (tab (λ k. k) n) ≡ map g (tab (λ k. k) n) =
      flat_split f g (tab (λ k. k) n)
      (all-tab (λ k. length (f k) ≡ length (g k)) (λ k. k) n (λ k l. mail_long xs c ts (suc k) (omega arith) ∙ sym (mail_long ys d us (suc k) (omega arith))))
      mails-same in
      sym (get_or-map-in f (tab (λ k. k) n) k 0 [] (omega (arith, length-tab {A = ℕ} (λ k. k) n)) ∙ ap f (get_or-tab (λ k. k) n k 0 l))
      ∙ ap (λ (r : List (List ℕ)). get_or r k []) e
      ∙ get_or-map-in g (tab (λ k. k) n) k 0 [] (omega (arith, length-tab {A = ℕ} (λ k. k) n)) ∙ ap g (get_or-tab (λ k. k) n k 0 l)

  all-pieces : Pieces plan i xs c ts ys d us
  all-pieces = record {
    inputs = inputs-same;
    coins = coins-same;
    mail = round_same;
    result = back_same (mails plan xs c ts i) (results plan xs c ts i) (mails plan ys d us i) (results plan ys d us i) mails_long rest_same;
  }

-- ---- the claim
module _ (bytes : List ℕ) (set : ℕ) (xs ys : List ℕ) (alike : Alike bytes set xs ys) (i : ℕ) (from1 : 1 ≤ i) (on : in_set set i ≡ true) where
  few : party_count (plan_of bytes) ≤ 16
  few = omega (arith, parties-few bytes alike.passes)

  own-same : own_inputs (plan_of bytes) i xs ≡ own_inputs (plan_of bytes) i ys
  own-same = at_i (plan_of bytes) set i alike.set_passes few from1 on (λ j. own_inputs (plan_of bytes) j xs) (λ j. own_inputs (plan_of bytes) j ys) alike.agree

  alone_pieces : (c : List ℕ) → kind_count (plan_of bytes) 7 ≡ 0 → Coins (plan_of bytes) c → Pieces (plan_of bytes) i xs c [] ys (matched_coins (plan_of bytes) (members set) xs ys c) []
  alone_pieces c none s =
      let v : Private (plan_of bytes) (members set) xs ys = runs_private.alone bytes set xs ys none alike in
      let d : List ℕ = matched_coins (plan_of bytes) (members set) xs ys c in
      all-pieces bytes set alike.set_passes xs c [] ys d [] (given_alone bytes xs c alike.passes none alike.first s) (given_alone bytes ys d alike.passes none alike.second (v.full c s))
      (v.same_view c s) i from1 on own-same
      (sym (at_i (plan_of bytes) set i alike.set_passes few from1 on (λ j. own_coins (plan_of bytes) j d) (λ j. own_coins (plan_of bytes) j c) (v.keeps c s)))

  module _ (prep : List ℕ) (prep_passes : plan_check prep ≡ Ok tt) (shape : prepared_ok (plan_of prep) (plan_of bytes) ≡ true) (c d : List ℕ)
      (full : Full (plan_of bytes).p (joint_count (plan_of prep) (plan_of bytes)) c) (e : d ≡ matched_joint (plan_of prep) (plan_of bytes) (members set) xs ys c) where
    moved : Full (plan_of bytes).p (joint_count (plan_of prep) (plan_of bytes)) d
    moved = moved_full bytes set xs ys alike prep prep_passes shape c d full e

    -- what the party holds of the joint list, and its three parts
    held-same :
        own_inputs (plan_of prep) i (draws_of (plan_of prep) c) ++ (own_coins (plan_of prep) i (preparing_coins (plan_of prep) c) ++ own_coins (plan_of bytes) i (main_coins (plan_of prep) c))
        ≡ own_inputs (plan_of prep) i (draws_of (plan_of prep) d) ++ (own_coins (plan_of prep) i (preparing_coins (plan_of prep) d) ++ own_coins (plan_of bytes) i (main_coins (plan_of prep) d))
    unfolding joint_count preparing_count
    held-same =
        at_i (plan_of bytes) set i alike.set_passes few from1 on (held c) (held d)
        (sym ((private bytes set xs ys alike prep prep_passes shape).keeps c full) ∙ ap (joint_held (plan_of prep) (plan_of bytes) (members set)) (sym e))
      where
        held : List ℕ → ℕ → List ℕ
        held l i = own_inputs (plan_of prep) i (draws_of (plan_of prep) l) ++ (own_coins (plan_of prep) i (preparing_coins (plan_of prep) l) ++ own_coins (plan_of bytes) i (main_coins (plan_of prep) l))

    draws-long : length (own_inputs (plan_of prep) i (draws_of (plan_of prep) c)) ≡ length (own_inputs (plan_of prep) i (draws_of (plan_of prep) d))
    unfolding own_inputs
    draws-long = length-own i (input_owners (plan_of prep)) (draws_of (plan_of prep) c) ∙ sym (length-own i (input_owners (plan_of prep)) (draws_of (plan_of prep) d))

    coins-long : length (own_coins (plan_of prep) i (preparing_coins (plan_of prep) c)) ≡ length (own_coins (plan_of prep) i (preparing_coins (plan_of prep) d))
    unfolding own_coins
    coins-long = length-own i (coin_owners (plan_of prep)) (preparing_coins (plan_of prep) c) ∙ sym (length-own i (coin_owners (plan_of prep)) (preparing_coins (plan_of prep) d))

    joint_pieces : Pieces (plan_of prep) i (draws_of (plan_of prep) c) (preparing_coins (plan_of prep) c) [] (draws_of (plan_of prep) d) (preparing_coins (plan_of prep) d) []
        × Pieces (plan_of bytes) i xs (main_coins (plan_of prep) c) (joint_triples (plan_of prep) c) ys (main_coins (plan_of prep) d) (joint_triples (plan_of prep) d)
    joint_pieces =
        let coins-kept = back_same _ _ _ _ draws-long held-same in
        let views = views_same bytes set xs ys alike prep prep_passes shape c full d e in (
          all-pieces prep set (prep_set bytes set xs ys alike prep prep_passes shape) (draws_of (plan_of prep) c) (preparing_coins (plan_of prep) c) [] (draws_of (plan_of prep) d) (preparing_coins (plan_of prep) d) []
              (preparing_given bytes set xs ys alike prep prep_passes shape c full) (preparing_given bytes set xs ys alike prep prep_passes shape d moved) views.0 i from1 on
              (front_same _ _ _ _ draws-long held-same) (front_same _ _ _ _ coins-long coins-kept),
          all-pieces bytes set alike.set_passes xs (main_coins (plan_of prep) c) (joint_triples (plan_of prep) c) ys (main_coins (plan_of prep) d) (joint_triples (plan_of prep) d)
              (main_given bytes set xs ys alike prep prep_passes shape c full xs alike.first) (main_given bytes set xs ys alike prep prep_passes shape d moved ys alike.second) views.1 i from1 on own-same
              (back_same _ _ _ _ coins-long coins-kept),
        )

pub same_pieces : SamePieces
same_pieces = record {
  alone = λ bytes set xs ys c none alike s i from1 on. alone_pieces bytes set xs ys alike i from1 on c none s;
  prepared = λ prep bytes set xs ys c d prep_passes shape alike full e i from1 on. joint_pieces bytes set xs ys alike i from1 on prep prep_passes shape c d full e;
}
