-- The nodes of a walk, from the lowest up, and the steps that are left.
use Rattle.std.proofs.Common.{◌≡◌, ◌≢◌, ℕ, zero, suc, ◌+◌, ◌<◌, ◌≤◌, Some, List, [], ◌∷◌, ◌++◌, length, slice_index, set, get_or-set_other}
use Rattle.std.proofs.Common.{sym, refl, subst, inl, ⊎_elim, arith}
use mathlib.Core.Option.{some, some-ne-none}
use lib.ListN.{get_elem?}
use Rattle.row_pool.specs.Trees.{Tree, nil, row, tree_word, children}
use Rattle.row_pool.specs.SeatView.{SeatView}
use Rattle.row_pool.specs.SeatState.{kind_of}
use Rattle.row_pool.specs.Views.{Reaches, below}
use Rattle.row_pool.proofs.Seats.{same_or}
use Rattle.span_key.specs.Spans.{Pair}
use Rattle.latch_item.specs.Items.{HasItem, IsLatch, item_of}
use Rattle.overlap_iter.specs.Overlaps.{spare}
use Rattle.overlap_iter.specs.Walks.{HasRoot, IsNodeKind, Within, itself, kid, RestOfNode, Frames, entries_left, places_left}

-- ---- what the seat reaches
parent-row : (u c : Tree) (k : ℕ) → get_elem? (children u) k ≡ some c → 0 < tree_word u
parent-row nil c k at = absurd (some-ne-none c (sym at))
parent-row (row r ws ks) c k at = omega arith

within-reached : (v : SeatView) (root u : Tree) → HasRoot v root → Within root u → 0 < tree_word u → Reaches v u
within-reached v root u up itself h = up h
within-reached v root c up (kid {u} k w at) h = below k (within-reached v root u up w (parent-row u c k at)) at

pub reached : (v : SeatView) (root u : Tree) (r : ℕ) → HasRoot v root → Within root u → tree_word u ≡ suc r → Reaches v u
reached v root u r up w here = within-reached v root u up w (omega arith)

pub has-item : (v : SeatView) (root x : Tree) (r : ℕ) → HasRoot v root → Within root x → tree_word x ≡ suc r → IsLatch x → HasItem v r (item_of x)
has-item v root x r up w here latch = inl (x, reached v root x r up w here, here, latch)

pub root-stays : (v w : SeatView) (root : Tree) → w ≡ v → HasRoot v root → HasRoot w root
root-stays v w root same up = subst (λ v. HasRoot v root) (sym same) up

-- what a link of a node answers
abbrev pub Leads : SeatView → ℕ → ℕ → ℕ → Type 0
Leads v r word i = (t u : Tree) (k : ℕ) → Reaches v t → tree_word t ≡ suc r → IsNodeKind (kind_of t) → word ≡ 3 + k → get_elem? (children t) k ≡ some u
    → tree_word u ≡ suc i

-- ---- the nodes above a level don't know of what stands below it
pub set-above : (xs : List ℕ) (level value k : ℕ) → suc level ≤ k → slice_index (set xs level value) k ≡ slice_index xs k
set-above xs level value k low = let ne : k ≢ level = λ e. omega arith in get_or-set_other xs level k value 0 ne

pub frames-same : (span : Pair) (root : Tree) (rows rows' places places' : List ℕ) (n level : ℕ) (bs : List Tree) (work : ℕ)
    → ((k : ℕ) → level ≤ k → slice_index rows' k ≡ slice_index rows k) → ((k : ℕ) → level ≤ k → slice_index places' k ≡ slice_index places k)
    → Frames span root rows places n level bs work → Frames span root rows' places' n level bs work
frames-same span root rows rows' places places' zero level bs work f g h = h
frames-same span root rows rows' places places' (suc n) level bs work f g h = record {
  node = h.node;
  inside = h.inside;
  here = h.here;
  here_work = h.here_work;
  rest = h.rest;
  rest_work = h.rest_work;
  node_rest = subst (λ r. RestOfNode span level h.node r (slice_index places' level) h.here h.here_work) (sym (f level (omega arith)))
      (subst (λ j. RestOfNode span level h.node (slice_index rows level) j h.here h.here_work) (sym (g level (omega arith))) h.node_rest);
  above = frames-same span root rows rows' places places' n (suc level) h.rest h.rest_work (λ k low. f k (omega arith)) (λ k low. g k (omega arith)) h.above;
  todo = h.todo;
  work_is = h.work_is;
}

-- ---- the steps that are left fall
pub record Falls (places : List ℕ) (level : ℕ) : Type 0 where
  pub entered : places_left level (set places level 0) + entries_left level (Some 0) < places_left (suc level) places + entries_left (suc level) (Some 0)
  pub passed : slice_index places level < 32
      → places_left level (set places level (slice_index places level + 1)) + entries_left level (Some 0) < places_left level places
  pub left : slice_index places level < 32 → places_left (suc level) places < places_left level places

three : (xs : List ℕ) → length xs ≡ 3 → (a : ℕ) × (b : ℕ) × (d : ℕ) × (xs ≡ a ∷ b ∷ d ∷ [])
three [] h = absurd (omega arith)
three (a ∷ []) h = absurd (omega arith)
three (a ∷ b ∷ []) h = absurd (omega arith)
three (a ∷ b ∷ d ∷ []) h = (a, b, d, refl)
three (a ∷ b ∷ d ∷ e ∷ xs) h = absurd (omega arith)

falls-by : (a b d level : ℕ) → level < 3 → Falls (a ∷ b ∷ d ∷ []) level
falls-by a b d zero h = record { entered = omega arith; passed = λ low. omega arith; left = λ low. omega arith }
falls-by a b d (suc zero) h = record { entered = omega arith; passed = λ low. omega arith; left = λ low. omega arith }
falls-by a b d (suc (suc zero)) h = record { entered = omega arith; passed = λ low. omega arith; left = λ low. omega arith }
falls-by a b d (suc (suc (suc level))) h = absurd (omega arith)

pub falls : (places : List ℕ) (level : ℕ) → length places ≡ 3 → level < 3 → Falls places level
falls places level h low = let (a, b, d, e) = three places h in subst (λ places. Falls places level) (sym e) (falls-by a b d level low)

-- from a level on, the higher ones count less
rise : (places : List ℕ) (level : ℕ) → level < 3 → places_left (suc level) places ≤ places_left level places
rise places zero h = omega arith
rise places (suc zero) h = omega arith
rise places (suc (suc zero)) h = omega arith
rise places (suc (suc (suc level))) h = absurd (omega arith)

pub falls-to : (places : List ℕ) (level height : ℕ) → length places ≡ 3 → level < height → height ≤ 3 → slice_index places level < 32
    → places_left height places < places_left level places
falls-to places level zero h low high place = absurd (omega arith)
falls-to places level (suc n) h low high place = ⊎_elim
    (λ (e : level ≡ n). let f = (falls places level h (omega arith)).left place in subst (λ n. places_left (suc n) places < places_left level places) e f)
    (λ (ne : level ≢ n). let f = falls-to places level n h (omega arith) (omega arith) place in let g = rise places n (omega arith) in omega arith)
    (same_or level n)

pub entries-same : (level r q : ℕ) → entries_left level (Some r) ≡ entries_left level (Some q)
entries-same zero r q = refl
entries-same (suc zero) r q = refl
entries-same (suc (suc zero)) r q = refl
entries-same (suc (suc (suc level))) r q = refl

pub entries-some : (level r : ℕ) → 0 < entries_left (suc level) (Some r)
entries-some zero r = omega arith
entries-some (suc zero) r = omega arith
entries-some (suc (suc level)) r = omega arith

-- a node in front of those above it
pub put-frame : (span : Pair) (root : Tree) (rows rows' places places' : List ℕ) (n level r j : ℕ) (u : Tree) (here rest : List Tree) (work more : ℕ)
    → Within root u → RestOfNode span level u r j here work → slice_index rows' level ≡ r → slice_index places' level ≡ j
    → ((k : ℕ) → suc level ≤ k → slice_index rows' k ≡ slice_index rows k) → ((k : ℕ) → suc level ≤ k → slice_index places' k ≡ slice_index places k)
    → Frames span root rows places n (suc level) rest more → Frames span root rows' places' (suc n) level (here ++ rest) (work + spare span here more)
put-frame span root rows rows' places places' n level r j u here rest work more inside left is at f g above = record {
  node = u;
  inside = inside;
  here = here;
  here_work = work;
  rest = rest;
  rest_work = more;
  node_rest = subst (λ r. RestOfNode span level u r (slice_index places' level) here work) (sym is)
      (subst (λ j. RestOfNode span level u r j here work) (sym at) left);
  above = frames-same span root rows rows' places places' n (suc level) rest more f g above;
  todo = refl;
  work_is = refl;
}
