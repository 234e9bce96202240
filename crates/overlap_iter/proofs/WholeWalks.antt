-- A walk from its beginning to its end.
use Rattle.std.proofs.Common.{◌≡◌, ℕ, zero, suc, ◌+◌, ◌-◌, ◌*◌, ◌<◌, ◌≤◌, Option, Some, None, false, List, [], ◌∷◌, ◌++◌, map, length}
use Rattle.std.proofs.Common.{append-nil, sym, refl, ap, ◌∙◌}
use Rattle.std.proofs.Common.{subst, arith}
use Rattle.std.specs.Option.{is_some}
use Rattle.row_pool.proofs.Splits.{tree_of-at}
use Rattle.row_pool.specs.Trees.{Tree, tree_word}
use Rattle.row_pool.specs.SeatView.{SeatView}
use Rattle.row_pool.specs.Changes.{tree_of}
use Rattle.row_pool.specs.Views.{by_ref}
use Rattle.span_key.specs.Spans.{Pair}
use Rattle.latch_item.specs.Shape.{RefersTo}
use Rattle.overlap_iter.specs.declared.cursor.Cursor.{Cursor}
use Rattle.overlap_iter.specs.Overlaps.{found, marks, spare}
use Rattle.overlap_iter.specs.Walks.{root_of, HasRoot, itself, Comes, Frames, Walks, WalksWithin, Came}
use Rattle.overlap_iter.proofs.Marks.{spare-most, marks-found}

-- ---- the beginning
abbrev pub outset : ℕ → Option ℕ → Cursor
outset height next = record { rows = 0 ∷ 0 ∷ 0 ∷ []; places = 0 ∷ 0 ∷ 0 ∷ []; low = height; height = height; next = next }

-- the height of a walk: none without a root
abbrev pub IsHeight : Option ℕ → ℕ → ℕ → Type 0
IsHeight None height h = h ≡ 0
IsHeight (Some root) height h = h ≡ height

begin-paid : (n h m k s : ℕ) → s ≤ 0 → m ≤ suc k → 1 ≤ h → n + (1 + 95 * h * m + s) ≤ n + 96 * h * suc k
begin-paid n h m k s a b c = let e : h * suc k ≡ h * (m + (suc k - m)) = ap (λ z. h * z) (let z : suc k ≡ m + (suc k - m) = omega arith in z) in omega arith

pub begun : (v : SeatView) (span : Pair) (root : Option ℕ) (height h : ℕ) (xs : List Tree) (n : ℕ) → RefersTo v root height xs → IsHeight root height h
    → WalksWithin span (root_of v root) (outset h root) (found span xs) n n (96 * height * suc (length (found span xs)))
begun v span None height h xs n o is = record {
  work = 0;
  walks = record {
    items = [];
    framed = record {
      levels = 0;
      height_is = omega arith;
      low_height = omega arith;
      rows_three = refl;
      places_three = refl;
      rest = [];
      more = 0;
      frames = (refl, refl);
      comes = (refl, omega arith);
    };
    sorted = tt;
    todo_is = ap (found span) o;
  };
  paid = omega arith;
}
begun v span (Some r) height h xs n (here, o) is =
    let level = o.levels in let low = o.low in
    record {
      work = 1 + 95 * h * marks span xs + spare span xs 0;
      walks = record {
        items = xs;
        framed = record {
          levels = 0;
          height_is = omega arith;
          low_height = omega arith;
          rows_three = refl;
          places_three = refl;
          rest = [];
          more = 0;
          frames = (refl, refl);
          comes = (
            xs,
            record { level = o.level; low_is = is ∙ o.levels; node = tree_of r v.refs; inside = itself; here = here; stands = o.stands },
            sym (append-nil xs),
            omega arith,
          );
        };
        sorted = o.sorted;
        todo_is = refl;
      };
      paid = subst (λ z. n + (1 + 95 * h * marks span xs + spare span xs 0) ≤ n + 96 * z * suc (length (found span xs))) is
          (begin-paid n h (marks span xs) (length (found span xs)) (spare span xs 0) (spare-most span xs 0) (marks-found span xs) (omega arith));
    }

-- ---- several steps
pub within-same : (span : Pair) (root : Tree) (c : Cursor) (todo : List Tree) (n work : ℕ) → Walks span root c todo work
    → WalksWithin span root c todo n n work
within-same span root c todo n work w = record { work = work; walks = w; paid = omega arith }

pub within-then : (span : Pair) (root : Tree) (c d : Cursor) (xs ys : List Tree) (n m o most : ℕ) → (w : WalksWithin span root c xs n m most)
    → WalksWithin span root d ys m o w.work → WalksWithin span root d ys n o most
within-then span root c d xs ys n m o most w x = record { work = x.work; walks = x.walks; paid = (let a = w.paid in let b = x.paid in omega arith) }

pub came-then : (span : Pair) (root : Tree) (c d : Cursor) (todo : List Tree) (i n m o most : ℕ) → (w : WalksWithin span root c todo n m most)
    → Came span root d todo i m o w.work → Came span root d todo i n o most
came-then span root c d todo i n m o most w x = record {
  item = x.item;
  rest = x.rest;
  next = x.next;
  here = x.here;
  inside = x.inside;
  latch = x.latch;
  walks = within-then span root c d todo x.rest n m o most w x.walks;
}

-- ---- the end
pub at-end : (span : Pair) (root : Tree) (c : Cursor) (todo : List Tree) (work : ℕ) → Walks span root c todo work → c.next ≡ None → (c.low < c.height → ⊥)
    → todo ≡ []
at-end span root c todo work w none stop =
    let f = w.framed in
    let same = (subst (λ n. Comes span root c.low n f.rest f.more w.items work) none f.comes).0 in
    w.todo_is ∙ ap (found span) (same ∙ go f.levels f.height_is f.frames)
  where
    go : (n : ℕ) → c.low + n ≡ c.height → Frames span root c.rows c.places n c.low w.framed.rest w.framed.more → w.framed.rest ≡ []
    go zero e f = f.0
    go (suc n) e f = absurd (stop (omega arith))

-- ---- a whole walk so far: the rows `out` were answered
pub record SoFar (span : Pair) (root : Tree) (c : Cursor) (out : List ℕ) (xs : List Tree) (height before after : ℕ) : Type 0 where
  pub todo : List Tree
  pub walks : WalksWithin span root c todo before after (96 * height * suc (length (found span xs)))
  pub all : map suc out ++ map tree_word todo ≡ map tree_word (found span xs)

more-out : (out : List ℕ) (i : ℕ) (ns : List ℕ) → map suc (out ++ i ∷ []) ++ ns ≡ map suc out ++ suc i ∷ ns
more-out [] i ns = refl
more-out (o ∷ out) i ns = ap (λ z. suc o ∷ z) (more-out out i ns)

pub so-came : (span : Pair) (root : Tree) (c d : Cursor) (out : List ℕ) (xs : List Tree) (height i n m o : ℕ) → (s : SoFar span root c out xs height n m)
    → Came span root d s.todo i m o s.walks.work → SoFar span root d (out ++ i ∷ []) xs height n o
so-came span root c d out xs height i n m o s x = record {
  todo = x.rest;
  walks = within-then span root c d s.todo x.rest n m o (96 * height * suc (length (found span xs))) s.walks x.walks;
  all = more-out out i (map tree_word x.rest) ∙ ap (λ z. map suc out ++ z) (sym (ap (map tree_word) x.next ∙ (λ k. x.here k ∷ map tree_word x.rest))) ∙ s.all;
}

pub so-ended : (span : Pair) (root : Tree) (c : Cursor) (out : List ℕ) (xs : List Tree) (height n m : ℕ) → (s : SoFar span root c out xs height n m)
    → s.todo ≡ [] → map suc out ≡ map tree_word (found span xs)
so-ended span root c out xs height n m s e = sym (append-nil (map suc out)) ∙ ap (λ z. map suc out ++ map tree_word z) (sym e) ∙ s.all

-- ---- a seat that refers to a shot
-- a seat that refers to a shot has what a walk through it asks for
pub shot-root : (v : SeatView) (r : Option ℕ) (height : ℕ) (xs : List Tree) → RefersTo v r height xs → HasRoot v (root_of v r)
shot-root v None height xs o = λ some_row. absurd (omega arith)
shot-root v (Some r) height xs (here, o) = λ some_row. let k = tree_of-at r v.refs here in by_ref k.0 k.1

pub not-some : (o : Option ℕ) → is_some o ≡ false → o ≡ None
not-some None h = refl
not-some (Some x) h = cc
