-- What each way through the readers of sums, products and brackets says of the definitions.
--     Going, Chaining     what the loop keeps
--     reading             what closes the needs of the functions
-- Assumes nothing.
use Rattle.std.proofs.Common.{Option, Some, None}
use Prim.Native.Nat.{ℕ, zero, suc, ◌+◌, ◌-◌, ◌<◌, ◌≤◌}
use mathlib.Core.Path.{◌≡◌, refl, sym, ap, ap₂, ◌∙◌}
use mathlib.Core.Bool.{Bool, true, false, cond}
use mathlib.Core.List.{List}
use native.Mathlib.Omega.{arith}
use native.Mathlib.Numerals.{add-one}
use borrow.Author.Rules.{rules}
use borrow.Author.Tests.{eq-eqb, ne_eqb, eqb-true}
use lib.Dec.{eqb}
use lib.ListN.{length, get_or}
use Rattle.text_decimals.specs.Reading.{blanks_end, Within}
use Rattle.text_decimals.proofs.Laws.{inside_of}
use Rattle.plan.specs.declared.Gate.TheVariants.{Add, Scale, Multiply}
use Rattle.sheet_text.specs.Trees.{Tree}
use Rattle.sheet_text.specs.Sheets.{Parsed, Link, closed, atom_by, joined, times_link, terms_link, linked, go_on, product_by, sum_by, inner_at, atom_at, product_at, sum_at, whole, sheet_at}
use Rattle.sheet_read.specs.declared.Part.{Part}
use Rattle.sheet_read.specs.declared.Operator.{Operator}
use Rattle.sheet_read.specs.declared.Operator.TheVariants as operator
use Rattle.sheet_read.specs.declared.Level.{Level}
use Rattle.sheet_read.specs.declared.Level.TheVariants as level
use Rattle.sheet_read.specs.Working.{capped_next, put_gate, join_out, join_by, after_left, work}
use Rattle.sheet_read.specs.Reading.{made, part_of, Left, Ahead, Reads, Sheet, leaf_at, closed_part, times_operator, term_operator, level_operator, part_at, chain_at, joined_side, Place, Inside, Leaf}
use Rattle.sheet_read.proofs.Gates.{long_put}
use Rattle.sheet_read.proofs.Leaves.{wrong_ahead, ahead_made, fits_next}

-- ---- where a part ends
ends : (s : List ℕ) (at : ℕ) (k : Part) (r : Option Part) → r ≡ Some k → Ahead s at r → record { from : at < k.at; upto : k.at ≤ length s }
unfolding Ahead
ends s at k r q h = rw q at h

pub in_41 : (s : List ℕ) (e b : ℕ) → b ≡ get_or s e 0 → b ≡ 41 → e < length s
in_41 s e b q h = inside_of s e b q (omega arith)

pub in_40 : (s : List ℕ) (e b : ℕ) → b ≡ get_or s e 0 → b ≡ 40 → e < length s
in_40 s e b q h = inside_of s e b q (omega arith)

-- ---- the closing bracket
module _ (s : List ℕ) (at : ℕ) (r : Part) (h : Inside s at r) (b : ℕ) (is : b ≡ get_or s r.at 0) where
  pub close_other : (b ≡ 41 → ⊥) → None ≡ closed_part s r
  unfolding closed_part
  close_other n = rw (ne_eqb (get_or s r.at 0) 41 (λ z. n (is ∙ z)))

  pub close_is : (f : ℕ) → b ≡ 41 → Within s (r.at + 1) (blanks_end s (r.at + 1)) f → Some (made r.wire r.gates f) ≡ closed_part s r
  unfolding closed_part
  close_is f z i = rw (eq-eqb (get_or s r.at 0) 41 (sym is ∙ z), ← add-one r.at, ← i.eq)

  pub close_past : (f : ℕ) → b ≡ 41 → Within s (r.at + 1) (blanks_end s (r.at + 1)) f → Ahead s at (Some (made r.wire r.gates f))
  close_past f z i = ahead_made s at r.wire r.gates f (omega (arith, h.from, i.from)) (omega (arith, i.upto, in_41 s r.at b is z))

-- ---- brackets
module _ (s : List ℕ) (at depth n p b g : ℕ) (names out : List ℕ) (h : Place s at depth) (is : b ≡ get_or s at 0) where
  pub at_leaf : Leaf s at b
  at_leaf = record { is = is; place = h.within }

  pub at_plain : (r : Option Part) (names' out' : List ℕ) → (b ≡ 40 → ⊥) → Reads s at (leaf_at n p s at) p g names out r names' out' → Reads s at (atom_at (16 - depth) n p s at) p g names out r names' out'
  unfolding atom_at atom_by leaf_at
  at_plain r names' out' z k = rw (ne_eqb (get_or s at 0) 40 (λ e. z (is ∙ e))) k

  pub at_deep : b ≡ 40 → 16 ≤ depth → Reads s at (atom_at (16 - depth) n p s at) p g names out None names out
  unfolding atom_at atom_by inner_at closed part_of Left
  at_deep z l =
      let e : 16 - depth ≡ 0 = omega arith in
      rw (eq-eqb (get_or s at 0) 40 (sym is ∙ z), e) (record { eq = refl; left = tt; ahead = wrong_ahead s at; long_names = refl; long_out = refl })

  pub sum_place : (f : ℕ) → b ≡ 40 → depth < 16 → Within s (at + 1) (blanks_end s (at + 1)) f → Place s f (depth + 1)
  sum_place f z l w = record { within = omega (arith, w.upto, in_40 s at b is z); open_few = omega arith }

pub sum_inside : (s : List ℕ) (at f : ℕ) (r : Option Part) (k : Part) → Within s (at + 1) (blanks_end s (at + 1)) f → Ahead s f r → r ≡ Some k → Inside s at k
sum_inside s at f r k w h q = let a = ends s f k r q h in record { from = omega (arith, a.from, w.from); upto = a.upto }

-- what stands in brackets was not read, or was
closed_of : List ℕ → Option Part → Option Part
closed_of s (Some r) = closed_part s r
closed_of s None = None

module _ (s : List ℕ) (p g : ℕ) (names out : List ℕ) where
  closed_part_is : (q : Parsed) → closed_of s (part_of p g names out q) ≡ part_of p g names out (closed s q)
  unfolding closed_of closed_part part_of closed
  closed_part_is (Parsed.Read x e) = by (eqb (get_or s e 0) 41)
    where
      by : (t : Bool) → cond t (Some (made (work p x names out g).wire (work p x names out g).gates (blanks_end s (suc e)))) None
          ≡ part_of p g names out (cond t (Parsed.Read x (blanks_end s (suc e))) Parsed.Wrong)
      by true = refl
      by false = refl
  closed_part_is Parsed.Wrong = refl

  closed_left : (q : Parsed) (names' out' : List ℕ) → Left p g names out q names' out' → Left p g names out (closed s q) names' out'
  unfolding Left closed
  closed_left (Parsed.Read x e) names' out' h = by (eqb (get_or s e 0) 41)
    where
      by : (t : Bool) → Left p g names out (cond t (Parsed.Read x (blanks_end s (suc e))) Parsed.Wrong) names' out'
      by true = h
      by false = tt
  closed_left Parsed.Wrong names' out' h = tt

  module _ (at depth n b f : ℕ) (r : Option Part) (names' out' : List ℕ) (is : b ≡ get_or s at 0) (z : b ≡ 40) (l : depth < 16)
      (w : Within s (at + 1) (blanks_end s (at + 1)) f) (h : Reads s f (sum_at (16 - (depth + 1)) n p s f) p g names out r names' out') where
    bracketed : (x : Option Part) → x ≡ closed_of s r → Ahead s at x → Reads s at (atom_at (16 - depth) n p s at) p g names out x names' out'
    unfolding atom_at atom_by inner_at sum_at
    bracketed x e a =
        let k : 16 - depth ≡ suc (16 - (depth + 1)) = omega arith in
        rw (eq-eqb (get_or s at 0) 40 (sym is ∙ z), k, ← add-one at, ← w.eq) (record {
          eq = e ∙ ap (closed_of s) h.eq ∙ closed_part_is (sum_by (inner_at (16 - (depth + 1)) n p s) n p s f);
          left = closed_left (sum_by (inner_at (16 - (depth + 1)) n p s) n p s f) names' out' h.left;
          ahead = a;
          long_names = h.long_names;
          long_out = h.long_out;
        })

    pub at_bracket : (k : Part) (x : Option Part) → r ≡ Some k → x ≡ closed_part s k → Ahead s at x → Reads s at (atom_at (16 - depth) n p s at) p g names out x names' out'
    unfolding closed_of
    at_bracket k x q e a = bracketed x (rw q e) a

    pub at_broken : (x : Option Part) → r ≡ None → x ≡ None → Reads s at (atom_at (16 - depth) n p s at) p g names out x names' out'
    unfolding closed_of
    at_broken x q z = rw z (bracketed None (rw q) (wrong_ahead s at))

-- ---- the loop over the parts of a sum or of a product
-- what an answer says of the tree
pub made_read : (p g : ℕ) (names out : List ℕ) (q : Parsed) (k : Part) → Some k ≡ part_of p g names out q
    → (x : Tree) × (q ≡ Parsed.Read x k.at) × (k.wire ≡ (work p x names out g).wire) × (k.gates ≡ (work p x names out g).gates)
unfolding part_of
made_read p g names out (Parsed.Read x f) k i =
    let j : k ≡ made (work p x names out g).wire (work p x names out g).gates f = cc in
    (x, ap (Parsed.Read x) (sym (ap (λ (z : Part). z.at) j)), ap (λ (z : Part). z.wire) j, ap (λ (z : Part). z.gates) j)
made_read p g names out Parsed.Wrong k i = let z : ◌≡◌ {A = ℕ} 0 1 = cc in absurd (omega arith)

pub wrong_read : (p g : ℕ) (names out : List ℕ) (q : Parsed) → None ≡ part_of p g names out q → q ≡ Parsed.Wrong
unfolding part_of
wrong_read p g names out (Parsed.Read x f) h = let z : ◌≡◌ {A = ℕ} 0 1 = cc in absurd (omega arith)
wrong_read p g names out Parsed.Wrong h = refl

-- the tree op l y, where the operator o says op
pub record Says (o : Operator) (p : ℕ) (op : Tree → Tree → Tree) : Type 0 where
  pub is : (l y : Tree) (names out : List ℕ) (g : ℕ) → work p (op l y) names out g ≡ after_left (join_by o p) (λ ns out' h. work p y ns out' h) (work p l names out g)

long_join : (o : Operator) (p l w g : ℕ) (out : List ℕ) → length (join_out o p l w g out) ≡ length out
unfolding join_out
long_join operator.Times p l w g out = long_put p out g (Multiply l w)
long_join operator.Plus p l w g out = long_put p out g (Add l w)
long_join operator.Minus p l w g out = long_put p (put_gate p out g (Scale w (p - 1))) (capped_next g) (Add l g) ∙ long_put p out g (Scale w (p - 1))

module _ (link : ℕ → Link) (step : ℕ → Parsed) (all : Parsed) (s : List ℕ) (at p g : ℕ) (names₀ out₀ : List ℕ) where
  -- the parts so far make the tree y; m more are enough for the text that is left, and with them the definition goes on to the whole
  pub record Going (k : Part) (names out : List ℕ) : Type 0 where
    pub y : Tree
    pub m : ℕ
    pub wire : k.wire ≡ (work p y names₀ out₀ g).wire
    pub gates : k.gates ≡ (work p y names₀ out₀ g).gates
    pub table : names ≡ (work p y names₀ out₀ g).names
    pub file : out ≡ (work p y names₀ out₀ g).out
    pub from : at < k.at
    pub upto : k.at ≤ length s
    pub long_names : length names ≡ length names₀
    pub long_out : length out ≡ length out₀
    pub enough : length s ≤ m + k.at
    pub rest : go_on link m step s (Parsed.Read y k.at) ≡ all

  go_wrong : (m : ℕ) → go_on link m step s Parsed.Wrong ≡ Parsed.Wrong
  unfolding go_on
  go_wrong zero = refl
  go_wrong (suc m) = refl

  go_ends : (m : ℕ) (x : Tree) (e : ℕ) → link (get_or s e 0) ≡ Link.Ends → go_on link m step s (Parsed.Read x e) ≡ Parsed.Read x e
  unfolding go_on linked
  go_ends zero x e l = refl
  go_ends (suc m) x e l = rw l

  all_wrong : (names out : List ℕ) → all ≡ Parsed.Wrong → length names ≡ length names₀ → length out ≡ length out₀ → Reads s at all p g names₀ out₀ None names out
  unfolding part_of Left
  all_wrong names out e i j = rw e (record { eq = refl; left = tt; ahead = wrong_ahead s at; long_names = i; long_out = j })

  module _ (whole_is : go_on link (length s) step s (step at) ≡ all) (r : Option Part) (names out : List ℕ) (h : Reads s at (step at) p g names₀ out₀ r names out) where
    go_begin : (k : Part) → r ≡ Some k → Going k names out
    unfolding Left
    go_begin k e =
        let t = made_read p g names₀ out₀ (step at) k (sym e ∙ h.eq) in
        let a = ends s at k r e h.ahead in
        let l = rw t.1 at h.left in
        record {
          y = t.0;
          m = length s;
          wire = t.2;
          gates = t.3;
          table = l.table;
          file = l.file;
          from = a.from;
          upto = a.upto;
          long_names = h.long_names;
          long_out = h.long_out;
          enough = omega arith;
          rest = rw t.1 at whole_is;
        }

    go_broken : r ≡ None → Reads s at all p g names₀ out₀ None names out
    go_broken e =
        let i = wrong_read p g names₀ out₀ (step at) (sym e ∙ h.eq) in
        all_wrong names out (sym whole_is ∙ ap (go_on link (length s) step s) i ∙ go_wrong (length s)) h.long_names h.long_out

  module _ (k : Part) (names out : List ℕ) (h : Going k names out) where
    go_done : link (get_or s k.at 0) ≡ Link.Ends → Reads s at all p g names₀ out₀ (Some k) names out
    unfolding part_of Left
    go_done l =
        let j : all ≡ Parsed.Read h.y k.at = sym h.rest ∙ go_ends h.m h.y k.at l in
        rw j (record {
          eq = ap₂ (λ w c. Some (made w c k.at)) h.wire h.gates;
          left = record { table = h.table; file = h.file };
          ahead = ahead_made s at k.wire k.gates k.at h.from h.upto;
          long_names = h.long_names;
          long_out = h.long_out;
        })

    -- an operator follows, and the reader of the next part answers r
    module _ (o : Operator) (op : Tree → Tree → Tree) (says : Says o p op) (inside : k.at < length s) (l : link (get_or s k.at 0) ≡ Link.Joins op)
        (f : ℕ) (u : Within s (k.at + 1) (blanks_end s (k.at + 1)) f) (r : Option Part) (names' mid : List ℕ) (n : Reads s f (step f) p k.gates names out r names' mid) where
      go_next : (m : ℕ) → length s ≤ m + k.at → go_on link m step s (Parsed.Read h.y k.at) ≡ all
          → (m' : ℕ) × (length s ≤ m' + f) × (go_on link m' step s (joined op h.y (step f)) ≡ all)
      unfolding go_on linked
      go_next zero e v = absurd (omega arith)
      go_next (suc m) e v = (m, omega (arith, u.from), rw (u.eq, add-one k.at) (rw l at v))

      go_lost : r ≡ None → Reads s at all p g names₀ out₀ None names' mid
      unfolding joined
      go_lost e =
          let t = go_next h.m h.enough h.rest in
          let i = wrong_read p k.gates names out (step f) (sym e ∙ n.eq) in
          all_wrong names' mid (sym (rw i at t.2) ∙ go_wrong t.0) (n.long_names ∙ h.long_names) (n.long_out ∙ h.long_out)

      right_is : (z : Tree) → work p (op h.y z) names₀ out₀ g ≡ join_by o p k.wire (work p z names out k.gates)
      unfolding after_left
      right_is z = says.is h.y z names₀ out₀ g ∙ rw (h.wire, h.gates, h.table, h.file)

      go_again : (k' : Part) (new : List ℕ) → r ≡ Some k' → new ≡ join_out o p k.wire k'.wire k'.gates mid → Going (joined_side o k') names' new
      unfolding Left joined join_by
      go_again k' new e d =
          let b = made_read p k.gates names out (step f) k' (sym e ∙ n.eq) in
          let w = rw b.1 at n.left in
          by b.0 b.1 b.2 b.3 w.table w.file
        where
          by : (z : Tree) → step f ≡ Parsed.Read z k'.at → k'.wire ≡ (work p z names out k.gates).wire → k'.gates ≡ (work p z names out k.gates).gates
              → names' ≡ (work p z names out k.gates).names → mid ≡ (work p z names out k.gates).out → Going (joined_side o k') names' new
          by z es ew eg en eo =
              let t = go_next h.m h.enough h.rest in
              let a = ends s f k' r e n.ahead in
              record {
                y = op h.y z;
                m = t.0;
                wire = rw (right_is z, eg);
                gates = rw (right_is z, eg);
                table = rw (right_is z) en;
                file = rw (right_is z) (d ∙ rw (ew, eg, eo));
                from = omega (arith, h.from, u.from, a.from);
                upto = a.upto;
                long_names = n.long_names ∙ h.long_names;
                long_out = ap length d ∙ long_join o p k.wire k'.wire k'.gates mid ∙ n.long_out ∙ h.long_out;
                enough = omega (arith, t.1, a.from);
                rest = rw es at t.2;
              }

-- ---- the operators of a level
abbrev pub level_link : Level → ℕ → Link
level_link level.Sum = terms_link
level_link level.Product = times_link

level_end : (l : Level) (b : ℕ) → None ≡ level_operator l b → level_link l b ≡ Link.Ends
unfolding times_link times_operator terms_link term_operator
level_end level.Sum b is = by (eqb b 43) (eqb b 45) is
  where
    by : (x y : Bool) → None ≡ cond x (Some operator.Plus) (cond y (Some operator.Minus) None) → cond x (Link.Joins Tree.Plus) (cond y (Link.Joins Tree.Minus) Link.Ends) ≡ Link.Ends
    by true y v = cc
    by false true v = cc
    by false false v = refl
level_end level.Product b is = by (eqb b 42) is
  where
    by : (x : Bool) → None ≡ cond x (Some operator.Times) None → cond x (Link.Joins Tree.Times) Link.Ends ≡ Link.Ends
    by true v = cc
    by false v = refl

-- an operator that stands at a place
record Standing (link : ℕ → Link) (o : Operator) (b p : ℕ) : Type 0 where
  op : Tree → Tree → Tree
  says : Says o p op
  joins : link b ≡ Link.Joins op
  some : 0 < b

times_says : (p : ℕ) → Says operator.Times p Tree.Times
unfolding work
times_says p = record { is = λ l y names out g. refl }

plus_says : (p : ℕ) → Says operator.Plus p Tree.Plus
unfolding work
plus_says p = record { is = λ l y names out g. refl }

minus_says : (p : ℕ) → Says operator.Minus p Tree.Minus
unfolding work
minus_says p = record { is = λ l y names out g. refl }

level_found : (l : Level) (o : Operator) (b p : ℕ) → Some o ≡ level_operator l b → Standing (level_link l) o b p
unfolding times_operator times_link term_operator terms_link
level_found level.Sum o b p is = by (eqb b 43) (eqb b 45) refl refl is
  where
    by : (x y : Bool) → eqb b 43 ≡ x → eqb b 45 ≡ y → Some o ≡ cond x (Some operator.Plus) (cond y (Some operator.Minus) None) → Standing terms_link o b p
    by true y u w v =
        let e : o ≡ operator.Plus = cc in
        rw e (record { op = Tree.Plus; says = plus_says p; joins = rw u; some = omega (arith, eqb-true b 43 u) })
    by false true u w v =
        let e : o ≡ operator.Minus = cc in
        rw e (record { op = Tree.Minus; says = minus_says p; joins = rw (u, w); some = omega (arith, eqb-true b 45 w) })
    by false false u w v = absurd (let z : ◌≡◌ {A = ℕ} 0 1 = cc in omega arith)
level_found level.Product o b p is = by (eqb b 42) refl is
  where
    by : (x : Bool) → eqb b 42 ≡ x → Some o ≡ cond x (Some operator.Times) None → Standing times_link o b p
    by true u v =
        let e : o ≡ operator.Times = cc in
        rw e (record { op = Tree.Times; says = times_says p; joins = rw u; some = omega (arith, eqb-true b 42 u) })
    by false u v = absurd (let z : ◌≡◌ {A = ℕ} 0 1 = cc in omega arith)

-- where an operator stands, the text goes on
operator_at : (l : Level) (s : List ℕ) (e : ℕ) (o : Operator) → Some o ≡ level_operator l (get_or s e 0) → e < length s
operator_at l s e o is = let y = level_found l o (get_or s e 0) 0 is in inside_of s e (get_or s e 0) refl y.some

pub times_in : (s : List ℕ) (e : ℕ) (r : Option Operator) (o : Operator) → r ≡ times_operator (get_or s e 0) → r ≡ Some o → e < length s
times_in s e r o is z = operator_at level.Product s e o (sym z ∙ is)

pub term_in : (s : List ℕ) (e : ℕ) (r : Option Operator) (o : Operator) → r ≡ term_operator (get_or s e 0) → r ≡ Some o → e < length s
term_in s e r o is z = operator_at level.Sum s e o (sym z ∙ is)

-- ---- the loop of a level
pub record Chaining (l : Level) (s : List ℕ) (at depth n p g : ℕ) (names₀ out₀ : List ℕ) (k : Part) (names out : List ℕ) : Type 0 where
  pub going : Going (level_link l) (part_at l (16 - depth) n p s) (chain_at l (16 - depth) n p s at) s at p g names₀ out₀ k names out

module _ (l : Level) (s : List ℕ) (at depth n p g : ℕ) (names₀ out₀ : List ℕ) where
  chain_whole : (l : Level) → go_on (level_link l) (length s) (part_at l (16 - depth) n p s) s (part_at l (16 - depth) n p s at) ≡ chain_at l (16 - depth) n p s at
  unfolding sum_at sum_by product_at product_by atom_at
  chain_whole level.Sum = refl
  chain_whole level.Product = refl

  module _ (r : Option Part) (names out : List ℕ) (h : Reads s at (part_at l (16 - depth) n p s at) p g names₀ out₀ r names out) where
    pub chain_begin : (k : Part) → r ≡ Some k → Chaining l s at depth n p g names₀ out₀ k names out
    chain_begin k e = record { going = go_begin (level_link l) (part_at l (16 - depth) n p s) (chain_at l (16 - depth) n p s at) s at p g names₀ out₀ (chain_whole l) r names out h k e }

    pub chain_broken : (x : Option Part) → r ≡ None → x ≡ None → Reads s at (chain_at l (16 - depth) n p s at) p g names₀ out₀ x names out
    chain_broken x e z = rw z (go_broken (level_link l) (part_at l (16 - depth) n p s) (chain_at l (16 - depth) n p s at) s at p g names₀ out₀ (chain_whole l) r names out h e)

  module _ (k : Part) (names out : List ℕ) (h : Chaining l s at depth n p g names₀ out₀ k names out) (o : Option Operator) (is : o ≡ level_operator l (get_or s k.at 0)) where
    pub chain_done : o ≡ None → Reads s at (chain_at l (16 - depth) n p s at) p g names₀ out₀ (Some k) names out
    chain_done z = go_done (level_link l) (part_at l (16 - depth) n p s) (chain_at l (16 - depth) n p s at) s at p g names₀ out₀ k names out h.going (level_end l (get_or s k.at 0) (sym z ∙ is))

    module _ (o' : Operator) (z : o ≡ Some o') where
      operator_in : k.at < length s
      operator_in = operator_at l s k.at o' (sym z ∙ is)

      module _ (f : ℕ) (u : Within s (k.at + 1) (blanks_end s (k.at + 1)) f) where
        pub part_place : depth ≤ 16 → Place s f depth
        part_place d = record { within = omega (arith, u.upto, operator_in); open_few = d }

        module _ (r : Option Part) (names' mid : List ℕ) (reads : Reads s f (part_at l (16 - depth) n p s f) p k.gates names out r names' mid) where
          standing : Standing (level_link l) o' (get_or s k.at 0) p
          standing = level_found l o' (get_or s k.at 0) p (sym z ∙ is)

          pub chain_lost : (x : Option Part) → r ≡ None → x ≡ None → Reads s at (chain_at l (16 - depth) n p s at) p g names₀ out₀ x names' mid
          chain_lost x e v = rw v (go_lost (level_link l) (part_at l (16 - depth) n p s) (chain_at l (16 - depth) n p s at) s at p g names₀ out₀ k names out h.going o' standing.op standing.says operator_in standing.joins f u r names' mid reads e)

          module _ (k' : Part) (e : r ≡ Some k') (x : Part) (new : List ℕ) (c : x ≡ joined_side o' k') (d : new ≡ join_out o' p k.wire k'.wire k'.gates mid) where
            pub chain_again : Chaining l s at depth n p g names₀ out₀ x names' new
            chain_again = rw c (record { going = go_again (level_link l) (part_at l (16 - depth) n p s) (chain_at l (16 - depth) n p s at) s at p g names₀ out₀ k names out h.going o' standing.op standing.says operator_in standing.joins f u r names' mid reads k' new e d })

            pub chain_less : length s - x.at < length s - k.at
            chain_less = let a = ends s f k' r e reads.ahead in rw c (omega (arith, operator_in, u.from, a.from))

-- ---- the sheet
pub start_place : (s : List ℕ) (f : ℕ) → Within s 0 (blanks_end s 0) f → Place s f 0
start_place s f w = record { within = omega (arith, w.upto); open_few = omega arith }

module _ (s : List ℕ) (n p g f : ℕ) (names out : List ℕ) (r : Option Part) (names' out' : List ℕ) (w : Within s 0 (blanks_end s 0) f) (h : Reads s f (sum_at (16 - 0) n p s f) p g names out r names' out') where
  from_start : Reads s f (sum_at 16 n p s (blanks_end s 0)) p g names out r names' out'
  from_start = rw (← w.eq) h

  as_sheet : (q : Parsed) (x : Option Part) → x ≡ part_of p g names out q → Left p g names out q names' out' → Sheet q p g names out x names' out'
  as_sheet q x a b = record { eq = a; left = b; long_names = h.long_names; long_out = h.long_out }

  pub sheet_broken : r ≡ None → Sheet (sheet_at n p s) p g names out None names' out'
  unfolding sheet_at whole
  sheet_broken j =
      let i = wrong_read p g names out (sum_at 16 n p s (blanks_end s 0)) (sym j ∙ from_start.eq) in
      rw i (as_sheet Parsed.Wrong None (unfold part_of in refl) (unfold Left in tt))

  module _ (k : Part) (j : r ≡ Some k) where
    pub sheet_longer : (k.at ≡ length s → ⊥) → Sheet (sheet_at n p s) p g names out None names' out'
    unfolding sheet_at whole
    sheet_longer z =
        let t = made_read p g names out (sum_at 16 n p s (blanks_end s 0)) k (sym j ∙ from_start.eq) in
        rw (t.1, ne_eqb k.at (length s) z) (as_sheet Parsed.Wrong None (unfold part_of in refl) (unfold Left in tt))

    pub sheet_whole : k.at ≡ length s → Sheet (sheet_at n p s) p g names out (Some k) names' out'
    unfolding sheet_at whole
    sheet_whole z =
        let t = made_read p g names out (sum_at 16 n p s (blanks_end s 0)) k (sym j ∙ from_start.eq) in
        rw (t.1, eq-eqb k.at (length s) z) (as_sheet (Parsed.Read t.0 k.at) (Some k) (sym j ∙ (rw t.1 at from_start.eq)) (rw t.1 at from_start.left))

-- As it is: answers name this set, since the check leaves their goals open by `using` alone.
pub ruleset reading = (rules, fits_next, in_40, in_41, wrong_ahead, close_other, close_is, close_past, at_leaf, at_plain, at_deep, sum_place, sum_inside, at_bracket, at_broken, chain_begin, chain_broken, chain_done, times_in, term_in, part_place, chain_lost, chain_again, chain_less, start_place, sheet_broken, sheet_longer, sheet_whole)
