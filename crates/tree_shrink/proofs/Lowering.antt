-- The first link after an item went.
use Rattle.std.proofs.Common.{List, ap, append_assoc, arith, length, length-append, refl, subst, sym, ℕ, ◌++◌, ◌-◌, ◌<◌, ◌∙◌, ◌∷◌, ◌≡◌, ◌≢◌}
use Rattle.row_pool.specs.SeatView.{SeatView}
use Rattle.row_pool.specs.Trees.{Tree, nil, tree_word}
use Rattle.latch_item.specs.Items.{IsLatch}
use Rattle.latch_item.specs.Shape.{IsTop, Node, weave}
use Rattle.interval_tree.proofs.Cutting.{node-body, node-of}
use Rattle.interval_tree.proofs.Greatest.{node-top}
use Rattle.interval_tree.specs.Held.{OwnsNode}
use Rattle.interval_tree.specs.Nodes.{Body, behind, kind_at}
use Rattle.tree_shrink.proofs.Borders.{flat-top, top-latch}
use Rattle.tree_shrink.proofs.Finding.{top-left}
use Rattle.tree_shrink.proofs.Seams.{body-of, cutout, filled, flat-of, right-of, weave-nothing, without}
use Rattle.tree_shrink.specs.Slots.{Seam, cut_links, seam_links}
use Rattle.tree_shrink.specs.Stages.{Lowers, Removed, Stood}

-- the item that went is another one
pub stood-same : (h : ℕ) (v : SeatView) (row kind n : ℕ) (xs ys : List Tree) (it : Tree) (item : ℕ) (l : Lowers h v row kind n xs ys it item)
    → tree_word l.top ≢ item → Stood h v row kind n ys
stood-same h v row kind n xs ys it item l ne = record {
  us = l.top ∷ l.tail;
  owns = l.owns;
  body = l.body;
  whole = λ some_items. node-of h kind n l.top l.tail ys l.top l.body (top-left l.top it xs ys l.greatest l.gone (λ e. ne (ap tree_word (sym e) ∙ l.item_is)));
  led = record { top = l.top; tail = l.tail; links = refl; fits = l.fits };
}

-- no items are left
pub stood-bare : (h : ℕ) (v : SeatView) (row kind n : ℕ) (xs ys : List Tree) (it : Tree) (item : ℕ) (l : Lowers h v row kind n xs ys it item) → n ≡ 0
    → Stood h v row kind n ys
stood-bare h v row kind n xs ys it item l none = record {
  us = l.top ∷ l.tail;
  owns = l.owns;
  body = l.body;
  whole = λ some_items. absurd
      (omega arith);
  led = record { top = l.top; tail = l.tail; links = refl; fits = l.fits };
}

pub stood-new : (h : ℕ) (w : SeatView) (row kind n : ℕ) (ys us : List Tree) → OwnsNode w row kind n us → Node h kind n us ys → Stood h w row kind n ys
stood-new h w row kind n ys us o nd = record {
  us = us;
  owns = o;
  body = node-body h kind n us ys nd;
  whole = λ e. nd;
  led =
      (let t = node-top h kind n us ys nd in record { top = t.top; tail = t.tail; links = t.links; fits = top-latch h kind n us ys t.top nd t.greatest });
}

-- ---- an item goes out of a leaf
pub record LeafOut (kind n : ℕ) (us is js : List Tree) (it : Tree) (i : ℕ) : Type 0 where
  pub ps : List Tree
  pub qs : List Tree
  pub top : Tree
  pub x : Tree
  pub seam : Seam 0 n ps qs i
  pub links : us ≡ seam_links seam top it x nil
  pub ys : List Tree
  pub body : Body 0 kind (n - 1) (cut_links seam top x) ys
  pub gone : Removed it (is ++ it ∷ js) ys
  pub greatest : IsTop top (is ++ it ∷ js)
  pub fits : IsLatch top
  pub item : IsLatch it
  pub kind_is : kind ≡ kind_at 0

pub leaf-out : (kind n : ℕ) (us is js : List Tree) (it : Tree) (i : ℕ) → Node 0 kind n us (is ++ it ∷ js) → length is ≡ i → LeafOut kind n us is js it i
leaf-out kind n us is js it i nd at =
    let xs : List Tree = is ++ it ∷ js in
    let f = flat-of 0 kind n us xs nd in
    let own_items : f.its ≡ is ++ it ∷ js = sym (f.list ∙ weave-nothing f.its f.ks f.yss f.below (let a = f.many in let b = f.count in omega arith)) in
    let q = cutout 0 kind n us xs f is (it ∷ js) i own_items at in
    let low : i < n = (let a = f.count in let b = ap length own_items in let d = length-append is (it ∷ js) in omega arith) in
    let w = right-of 0 n q.ps q.qs i q.slot low in
    let heads : w.s ∷ (w.l ++ w.rs) ≡ it ∷ weave js q.slot.zss = sym w.list ∙ q.slot.back ∙ (λ k. behind (q.same_right k) q.slot.zss) in
    let same : w.s ≡ it = cc in
    record {
      ps = q.ps;
      qs = w.rs;
      top = f.top;
      x = q.child;
      seam = w.seam;
      links = q.links ∙ w.links f.top q.child ∙ (λ k. seam_links w.seam f.top (same k) q.child (w.part.0 k));
      ys = q.ps ++ (q.ys ++ w.rs);
      body = body-of 0 kind (n - 1) (cut_links w.seam f.top q.child) (q.ps ++ (q.ys ++ w.rs)) (filled 0 kind (n - 1) f.top q.ps w.rs i
          (without 0 n q.ps w.rs i w.seam) q.child q.ys f.is q.part);
      gone = record {
        front = q.ps ++ q.ys;
        back = w.rs;
        old = q.list ∙ (λ k. q.ps ++ (q.ys ++ w.list k)) ∙ (λ k. q.ps ++ (q.ys ++ same k ∷ (w.part.1 k ++ w.rs))) ∙ sym (append_assoc q.ps q.ys (it ∷ w.rs));
        new = sym (append_assoc q.ps q.ys w.rs);
      };
      greatest = flat-top 0 kind n us xs nd;
      fits = top-latch 0 kind n us xs f.top nd (flat-top 0 kind n us xs nd);
      item = subst IsLatch same w.fits;
      kind_is = f.is;
    }
