-- The gap in a node's links moves up, and a child is taken out.
use Rattle.std.proofs.Common.{List, [], ap, append_assoc, arith, length, length-append, refl, replicate, subst, suc, sym, zero, ℕ, ◌++◌, ◌+◌, ◌-◌, ◌<◌, ◌∙◌}
use Rattle.std.proofs.Common.{◌∷◌, ◌≡◌, ◌≢◌, ◌≤◌}
use Rattle.row_pool.proofs.NewestRef.{tree_of-first}
use Rattle.row_pool.specs.Changes.{tree_of, with_old_target}
use Rattle.row_pool.specs.SeatView.{SeatView}
use Rattle.row_pool.specs.Trees.{Tree, nil, tree_word}
use Rattle.latch_item.specs.Shape.{Kid, Node}
use Rattle.interval_tree.proofs.Rows.{back-cons}
use Rattle.interval_tree.specs.Held.{OwnsNode}
use Rattle.interval_tree.specs.Steps.{CanSwap, Swaps}
use Rattle.tree_shrink.proofs.Seams.{nothing}
use Rattle.tree_shrink.specs.Steps.{CanClose, CanCloseChildren, CanDraw, CanShift, Closes, ClosesChildren, Draws, Shifts}

-- a list that isn't empty has a last element
record LastOf (c : Tree) (cs : List Tree) : Type 0 where
  pub front : List Tree
  pub last : Tree
  pub split : c ∷ cs ≡ front ++ last ∷ []
  pub many : length front ≡ length cs

last-of : (c : Tree) (cs : List Tree) → LastOf c cs
last-of c [] = record { front = []; last = c; split = refl; many = refl }
last-of c (d ∷ ds) = let z = last-of d ds in record { front = c ∷ z.front; last = z.last; split = ap (λ l. c ∷ l) z.split; many = ap suc z.many }

behind-last : (us vs : List Tree) (b c : Tree) (cs : List Tree) (z : LastOf c cs) → us ++ b ∷ (c ∷ cs ++ vs) ≡ (us ++ b ∷ z.front) ++ z.last ∷ vs
behind-last us vs b c cs z = ap (λ l. us ++ b ∷ (l ++ vs)) z.split ∙ ap (λ l. us ++ b ∷ l) (append_assoc z.front (z.last ∷ []) vs)
    ∙ sym (append_assoc us (b ∷ z.front) (z.last ∷ vs))

-- the last of the links goes first
pub shift-swap : (v : SeatView) (row k n goal : ℕ) → CanShift v row k n goal → CanSwap v row (k + n) goal
shift-swap v row k n goal (kind, m, us, [], vs, b, t, R, o, at, many, most, back, named, few) =
    (kind, m, us, vs, b, t, R, o, omega arith, omega arith, back, named, few)
shift-swap v row k n goal (kind, m, us, c ∷ cs, vs, b, t, R, o, at, many, most, back, named, few) =
    let z = last-of c cs in (
      kind,
      m,
      us ++ b ∷ z.front,
      vs,
      z.last,
      t,
      R,
      subst (OwnsNode v row kind m) (behind-last us vs b c cs z) o,
      length-append us (b ∷ z.front) ∙ (let y = z.many in omega arith),
      omega arith,
      back,
      named,
      few,
    )

-- and is then what goes into the place in front of it
record Shifted (w : SeatView) (row k n next kind m : ℕ) (us bs vs : List Tree) (b t : Tree) (R : List Tree) : Type 0 where
  pub front : List Tree
  pub last : Tree
  pub split : bs ≡ front ++ last ∷ []
  pub many : length front ≡ n - 1
  pub owns : OwnsNode w row kind m (us ++ b ∷ (front ++ t ∷ vs))
  pub back : w.refs ≡ with_old_target last R
  pub named : tree_word last ≡ next

shifted-one : (v w : SeatView) (row k n goal next : ℕ) → 0 < n → Swaps v w row (k + n) goal next → (kind m : ℕ) (us bs vs : List Tree) (b t : Tree)
    (R : List Tree) → OwnsNode v row kind m (us ++ b ∷ (bs ++ vs)) → length us ≡ k → length bs ≡ n → v.refs ≡ with_old_target t R → tree_word t ≡ goal
    → Shifted w row k n next kind m us bs vs b t R
shifted-one v w row k n goal next low f kind m us [] vs b t R o at many back named = absurd (omega arith)
shifted-one v w row k n goal next low f kind m us (c ∷ cs) vs b t R o at many back named =
    let z = last-of c cs in
    let y = f kind m (us ++ b ∷ z.front) vs z.last t R (subst (OwnsNode v row kind m) (behind-last us vs b c cs z) o)
    (length-append us (b ∷ z.front) ∙ (let y = z.many in omega arith)) back named in
    record {
      front = z.front;
      last = z.last;
      split = z.split;
      many = (let y = z.many in omega arith);
      owns = subst (OwnsNode w row kind m) (append_assoc us (b ∷ z.front) (t ∷ vs)) y.1;
      back = y.2;
      named = sym y.0;
    }

pub shift-next : (v w : SeatView) (row k n goal next : ℕ) → 0 < n → CanShift v row k n goal → Swaps v w row (k + n) goal next
    → CanShift w row k (n - 1) next
shift-next v w row k n goal next low (kind, m, us, bs, vs, b, t, R, o, at, many, most, back, named, few) f =
    let d = shifted-one v w row k n goal next low f kind m us bs vs b t R o at many back named in
    (kind, m, us, d.front, t ∷ vs, b, d.last, R, d.owns, at, d.many, omega arith, d.back, d.named, few)

pub shifted-last : (v w : SeatView) (row k n goal result : ℕ) → n ≡ 0 → Swaps v w row (k + n) goal result → Shifts v w row k n goal result
shifted-last v w row k n goal result none f kind m us [] vs b t R o at many back named = f kind m us vs b t R o (omega arith) back named
shifted-last v w row k n goal result none f kind m us (c ∷ cs) vs b t R o at many back named = absurd (omega arith)

pub all-shifted : (v w x : SeatView) (row k n goal next result : ℕ) → 0 < n → Swaps v w row (k + n) goal next → Shifts w x row k (n - 1) next result
    → Shifts v x row k n goal result
all-shifted v w x row k n goal next result low f g kind m us bs vs b t R o at many back named =
    let d = shifted-one v w row k n goal next low f kind m us bs vs b t R o at many back named in
    let z = g kind m us d.front (t ∷ vs) b d.last R d.owns at d.many d.back d.named in (
      z.0,
      subst (OwnsNode x row kind m) (ap (λ l. us ++ l) (sym (append_assoc d.front (d.last ∷ []) (t ∷ vs)) ∙ ap (λ l. l ++ t ∷ vs) (sym d.split))) z.1,
      z.2,
    )

-- a link comes out where those behind it move down, and nothing goes into the last place
pub draw-shift : (v : SeatView) (row k n : ℕ) → CanDraw v row k n → CanShift v row k n 0
draw-shift v row k n (kind, m, us, bs, vs, b, o, at, many, most, few) = (kind, m, us, bs, vs, b, nil, v.refs, o, at, many, most, refl, refl, omega arith)

pub drawn-shift : (v w : SeatView) (row k n result : ℕ) → Shifts v w row k n 0 result → Draws v w row k n result
drawn-shift v w row k n result f kind m us bs vs b o at many = f kind m us bs vs b nil v.refs o at many refl refl

-- a gap is a link that has come out: what is behind it is drawn into it
pub gap-draws : (v : SeatView) (row k n : ℕ) → CanClose v row k n → CanDraw v row k n
gap-draws v row k n (kind, m, us, bs, vs, o, at, many, most, few) = (kind, m, us, bs, vs, nil, o, at, many, most, few)

pub gap-closed : (v w : SeatView) (row k n result : ℕ) → Draws v w row k n result → Closes v w row k n
gap-closed v w row k n result f kind m us bs vs o at many = (f kind m us bs vs nil o at many).1

pub gap-back : (v w : SeatView) (row k n result : ℕ) → CanClose v row k n → Draws v w row k n result → w.refs ≡ v.refs
gap-back v w row k n result (kind, m, us, bs, vs, o, at, many, most, few) f = (f kind m us bs vs nil o at many).2

pub none-closed : (v : SeatView) (row k n : ℕ) → n ≤ 0 → Closes v v row k n
none-closed v row k n low kind m us [] vs o at many = o
none-closed v row k n low kind m us (b ∷ bs) vs o at many = absurd (omega arith)

-- ---- a child comes out
-- it is the newest reference
pub record TakenOut (h : ℕ) (w : SeatView) (row kind n link : ℕ) (us vs : List Tree) (u : Tree) (ys R : List Tree) : Type 0 where
  pub owns : OwnsNode w row kind n (us ++ nil ∷ vs)
  pub back : w.refs ≡ u ∷ R
  pub child_is : tree_word u ≡ suc (link - 1)
  pub low : 1 ≤ link
  pub tree : tree_of (link - 1) w.refs ≡ u

pub taken-out : (h : ℕ) (v w : SeatView) (row k link kind n : ℕ) (us vs : List Tree) (u : Tree) (ys : List Tree) → OwnsNode v row kind n (us ++ u ∷ vs)
    → length us ≡ k → Kid (Node h) u ys → Swaps v w row k 0 link → TakenOut h w row kind n link us vs u ys v.refs
taken-out h v w row k link kind n us vs u ys o at kid f =
    let z = f kind n us vs u nil v.refs o at refl refl in
    let here : tree_word u ≡ suc (link - 1) = (let a = kid.here in let b = z.0 in omega arith) in
    let back : w.refs ≡ u ∷ v.refs = z.2 ∙ sym (back-cons u v.refs (link - 1) here) in
    record {
      owns = z.1;
      back = back;
      child_is = here;
      low = (let a = kid.here in let b = z.0 in omega arith);
      tree = ap (tree_of (link - 1)) back ∙ tree_of-first (link - 1) u v.refs here;
    }

-- ---- the children of a leaf are nothing
nils-turn : (n : ℕ) (vs : List Tree) → nil ∷ (replicate n nil ++ vs) ≡ replicate n nil ++ nil ∷ vs
nils-turn zero vs = refl
nils-turn (suc n) vs = ap (λ l. nil ∷ l) (nils-turn n vs)

pub leaf-closes : (v : SeatView) (row i n : ℕ) → ((kind m : ℕ) (us : List Tree) → OwnsNode v row kind m us → kind ≢ 3) → ClosesChildren v v row i n
leaf-closes v row i n leaf zero kind us ds zss free is p o at many =
    let e = nothing ds zss p in
    subst (OwnsNode v row kind n) (ap (λ l. us ++ l) ((λ i. nil ∷ (e i ++ replicate free nil)) ∙ nils-turn (length ds) (replicate free nil)
    ∙ (λ i. sym e i ++ nil ∷ replicate free nil))) o
leaf-closes v row i n leaf (suc h) kind us ds zss free is p o at many = absurd (leaf kind n (us ++ nil ∷ (ds ++ replicate free nil)) o is)

pub children-close : (v : SeatView) (row i n : ℕ) → CanCloseChildren v row i n → CanClose v row (33 + i) (n - 1 - i)
children-close v row i n (h, kind, us, ds, zss, free, is, p, o, at, many, low, most, few) =
    (kind, n, us, ds, replicate free nil, o, at, many, omega arith, few)
