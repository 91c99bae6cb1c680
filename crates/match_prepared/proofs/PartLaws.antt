-- A joint list in its parts: the draws and the coins of the preparing run, and the coins of the main run.
--     both-parts, room-parts, draws-part-long    where they stand
--     parted                                     what they are
--     joined                                     what they go to, joined
-- Assumes nothing.
use mathlib.Core.Path.{◌≡◌, sym, ap, ap₂, ◌∙◌}
use mathlib.Core.List.{List, [], ◌++◌, append_assoc}
use Prim.Native.Nat.{ℕ, ◌+◌, ◌-◌, ◌*◌, ◌≤◌}
use native.Mathlib.Omega.{arith}
use lib.ListN.{length, take, drop, length-drop}
use lib.Seq.{length-take-le, take_all}
use Rattle.numbers.specs.Bytes.{width, numbers, bytes_of}
use Rattle.numbers.proofs.Bytes.{numbers-length, numbers-part, numbers-drop, bytes_of-append}
use Rattle.numbers.proofs.Below.{all_below-take, all_below-drop}
use Rattle.plan.specs.declared.Header.{Header}
use Rattle.plan.specs.Plans.{party_count, input_count, coin_count}
use Rattle.plan.specs.File.{plan_of}
use Rattle.plan.specs.Planned.{Planned}
use Rattle.plan.proofs.Valid.{valid}
use Rattle.plan_coalition.specs.Coalitions.{members}
use Rattle.run_protocol.specs.Shares.{share_table}
use Rattle.match_privacy.specs.Matching.{lowest, matched_with, matched_coins}
use Rattle.match_joint.specs.JointLists.{draws_of, preparing_coins, main_coins}
use Rattle.match_joint.specs.Joint.{spent_changes, moved_draws, matched_draws, matched_preparing, matched_joint}
use Rattle.match_prepared.specs.PreparedCalls.{preparing_count, joint_count}
use Rattle.match_prepared.specs.PreparedParts.{Jointly}
use Rattle.match_prepared.specs.MatchingParts.{new_draws, new_coins, new_main, Parted}
use Rattle.match_prepared.proofs.MatchingLaws.{same_p}

module _ {pb bs : List ℕ} {g : Header} (q : Planned bs g) {set : ℕ} {xs ys cs : List ℕ} {room : ℕ} (j : Jointly pb bs set xs ys cs room) {i c : ℕ} (ei : i ≡ input_count (plan_of pb)) (ec : c ≡ coin_count (plan_of pb)) where
  counted : length cs ≡ width * (i + c + coin_count (plan_of bs))
  unfolding joint_count preparing_count
  counted = j.coins_long ∙ ap₂ (λ (a b : ℕ). width * (a + b + coin_count (plan_of bs))) (sym ei) (sym ec)

  draws-part : width * i ≤ length cs
  draws-part = omega (arith, counted)

  pub both-parts : width * i + width * c ≤ length cs
  both-parts = omega (arith, counted)

  pub room-parts : width * i + width * c ≤ room
  room-parts = omega (arith, counted, j.coins_long, j.room_long)

  pub draws-part-long : width * i ≡ length (take (width * i) cs)
  draws-part-long = sym (length-take-le (width * i) cs draws-part)

  abbrev draws_in : List ℕ
  draws_in = take (width * i) cs

  abbrev coins_in : List ℕ
  coins_in = take (width * i + width * c - width * i) (drop (width * i) cs)

  abbrev main_in : List ℕ
  main_in = take (length cs - (width * i + width * c)) (drop (width * i + width * c) cs)

  draws-are : numbers (take (width * i) cs) ≡ take i (numbers cs)
  draws-are = numbers-part cs 0 i

  coins-are : numbers (take (width * i + width * c - width * i) (drop (width * i) cs)) ≡ take c (drop i (numbers cs))
  coins-are = let e : width * i + width * c - width * i ≡ width * c = omega arith in ap (λ (k : ℕ). numbers (take k (drop (width * i) cs))) e ∙ numbers-part cs i c

  main-are : numbers (take (length cs - (width * i + width * c)) (drop (width * i + width * c) cs)) ≡ drop (i + c) (numbers cs)
  main-are =
      let e : width * i + width * c ≡ width * (i + c) = omega arith in
      ap numbers (take_all (length cs - (width * i + width * c)) (drop (width * i + width * c) cs) (omega (arith, length-drop (width * i + width * c) cs)))
      ∙ ap (λ (k : ℕ). numbers (drop k cs)) e ∙ numbers-drop cs (i + c)

  many-numbers : length (numbers cs) ≡ i + c + coin_count (plan_of bs)
  many-numbers = numbers-length cs ∙ omega (arith, counted)

  own-p : (plan_of pb).p ≡ (plan_of bs).p
  own-p = same_p (plan_of pb) (plan_of bs) (valid bs q.passes) j.prepared

  pub parted :
      Parted pb bs set xs ys (take (width * i) cs) (take (width * i + width * c - width * i) (drop (width * i) cs))
      (take (length cs - (width * i + width * c)) (drop (width * i + width * c) cs))
  parted =
      record {
        prepared = j.prepared;
        set_ok_first = j.set_ok_first;
        set_ok_lem = j.set_ok_lem;
        first_full = record { count = numbers-length xs ∙ omega (arith, j.first_long); small = j.first_below };
        second_full = record { count = numbers-length ys ∙ omega (arith, j.second_long); small = j.second_below };
        agree = j.agree;
        draws_long = length-take-le (width * i) cs (omega (arith, counted)) ∙ ap (λ (k : ℕ). width * k) ei;
        draws_full = record {
          count = ap length draws-are ∙ length-take-le i (numbers cs) (omega (arith, many-numbers)) ∙ ei;
          small = rw (draws-are, own-p) (all_below-take (plan_of bs).p i (numbers cs) j.coins_below);
        };
        coins_long =
            length-take-le (width * i + width * c - width * i) (drop (width * i) cs) (omega (arith, counted, length-drop (width * i) cs))
            ∙ omega (arith, ec);
        coins_full = record {
          count = ap length coins-are ∙ length-take-le c (drop i (numbers cs)) (omega (arith, many-numbers, length-drop i (numbers cs))) ∙ ec;
          small = rw (coins-are, own-p) (all_below-take (plan_of bs).p c (drop i (numbers cs)) (all_below-drop (plan_of bs).p i (numbers cs) j.coins_below));
        };
        main_long =
            length-take-le (length cs - (width * i + width * c)) (drop (width * i + width * c) cs) (omega (arith, length-drop (width * i + width * c) cs))
            ∙ omega (arith, counted);
        main_full = record {
          count = ap length main-are ∙ omega (arith, many-numbers, length-drop (i + c) (numbers cs));
          small = rw main-are (all_below-drop (plan_of bs).p (i + c) (numbers cs) j.coins_below);
        };
      }

  -- what the parts of the joint list go to, joined
  abbrev moved_of : List ℕ → List ℕ
  moved_of d = moved_draws (plan_of bs).p (party_count (plan_of bs)) (lowest (plan_of bs) (members set)) (spent_changes (plan_of bs) (numbers xs) (numbers ys)) d

  abbrev made_of : List ℕ → List ℕ → List ℕ
  made_of d k = matched_coins (plan_of pb) (members set) d (moved_of d) k

  abbrev joint_of : List ℕ → List ℕ → List ℕ → List ℕ
  joint_of d k m =
      moved_of d
      ++ (made_of d k
      ++ matched_with (plan_of bs) (members set) (share_table (plan_of pb) d k []) (share_table (plan_of pb) (moved_of d) (made_of d k) []) (numbers xs) (numbers ys) m)

  pub joined :
      {moved made main : List ℕ} → moved ≡ bytes_of (new_draws bs set xs ys (take (width * i) cs))
      → made ≡ bytes_of (new_coins pb bs set xs ys (take (width * i) cs) (take (width * i + width * c - width * i) (drop (width * i) cs)))
      → main
      ≡ bytes_of (new_main pb bs set xs ys (take (width * i) cs) (take (width * i + width * c - width * i) (drop (width * i) cs))
      (take (length cs - (width * i + width * c)) (drop (width * i + width * c) cs)))
      → (moved ++ made) ++ main ≡ bytes_of (matched_joint (plan_of pb) (plan_of bs) (members set) (numbers xs) (numbers ys) (numbers cs))
  unfolding new_draws new_coins new_main matched_joint matched_draws matched_preparing draws_of preparing_coins main_coins
  joined {main = main} em ed ek =
      ap₂ (λ (a b : List ℕ). (a ++ b) ++ main) em ed
      ∙ append_assoc (bytes_of (moved_of (numbers draws_in))) (bytes_of (made_of (numbers draws_in) (numbers coins_in))) main
      ∙ ap (λ (a : List ℕ). bytes_of (moved_of (numbers draws_in)) ++ (bytes_of (made_of (numbers draws_in) (numbers coins_in)) ++ a)) ek
      ∙ ap (λ (a : List ℕ). bytes_of (moved_of (numbers draws_in)) ++ a) (sym (bytes_of-append (made_of (numbers draws_in) (numbers coins_in)) _))
      ∙ sym (bytes_of-append (moved_of (numbers draws_in)) _)
      ∙ ap bytes_of
      (ap₂ (λ (d k : List ℕ). joint_of d k (numbers main_in)) (draws-are ∙ ap (λ (n : ℕ). take n (numbers cs)) ei)
      (coins-are ∙ ap₂ (λ (n m : ℕ). take n (drop m (numbers cs))) ec ei)
      ∙ ap (joint_of (take (input_count (plan_of pb)) (numbers cs)) (take (coin_count (plan_of pb)) (drop (input_count (plan_of pb)) (numbers cs))))
      (main-are ∙ ap₂ (λ (n m : ℕ). drop (n + m) (numbers cs)) ei ec))
