-- One latch more.
use Rattle.std.proofs.Common.{◌≡◌, ◌⊎◌, ⊎_elim, inl, inr, ℕ, List, [], ◌∷◌, ◌++◌, length, ap, sym, ◌∙◌, subst, arith}
use Rattle.std.proofs.lemmas.List.{length-append}
use Rattle.latch_model.specs.declared.latch.Access.TheVariants.{Read, Write}
use Rattle.row_pool.specs.Trees.{Tree as Row}
use Rattle.latch_model.specs.Histories.{in_order}
use Rattle.latch_item.specs.Items.{Item}
use Rattle.latch_item.specs.Shape.{Among}
use Rattle.held_latches.specs.Content.{AllApart, Content, IsIn, held_of, items_in, placed_items, read_items}
use Rattle.held_latches.specs.Scopes.{Added, AddedRead, AddedWrite, Around}
use Rattle.held_latches.specs.Stock.{Placed}
use Rattle.held_latches.specs.declared.pool.Pool.{Pool}
use Rattle.held_latches.specs.declared.scopes.ScopeTrees.{ScopeTrees}

in-append : (p : Placed) (ps qs : List Placed) → IsIn p (ps ++ qs) → IsIn p ps ⊎ IsIn p qs
in-append p [] qs h = inr h
in-append p (q ∷ ps) qs h = ⊎_elim (λ z. inl (inl z)) (λ k. ⊎_elim (λ a. inl (inr a)) inr (in-append p ps qs k)) h

pub reads-same : (c d : Content) → d.reads ≡ c.reads → d.pending ≡ c.pending → read_items d ≡ read_items c
reads-same c d r p = ap (λ ts. items_in ts ++ placed_items d.pending) r ∙ ap (λ ps. items_in c.reads ++ placed_items ps) p

pub added-write : (old new : Pool) (s t : ScopeTrees) (c d : Content) (a : Around) (row : ℕ) (x : Item) → AllApart (read_items c)
    → AddedWrite old new s t c d a row x → Added old new s t c d a row x Write
added-write old new s t c d a row x apart o =
    let same = reads-same c d o.reads.0 o.reads.1 in
    let r = ap (λ (ts : List Row). length ts) o.reads.0 in let p = ap (λ (ps : List Placed). length ps) o.reads.1 in record {
      has = o.has;
      apart = (o.apart, subst AllApart (sym same) apart);
      order_writes = o.order;
      order_reads = ap (λ l. in_order (held_of Read l)) same;
      came_writes = o.came;
      came_reads = λ u m. subst (Among u) o.reads.0 m;
      came_pending = λ u m. inl (subst (IsIn u) o.reads.1 m);
      many = (let w = o.many in omega arith);
      spent = (let w = o.many in let z = o.spent in omega arith);
      stay = o.stay;
    }

pub added-read : (old new : Pool) (s t : ScopeTrees) (c d : Content) (a : Around) (row : ℕ) (x : Item) → AllApart (items_in c.writes)
    → AddedRead old new s t c d a row x → Added old new s t c d a row x Read
added-read old new s t c d a row x apart o =
    let w = ap (λ (ts : List Row). length ts) o.trees.0 in let r = ap (λ (ts : List Row). length ts) o.trees.1 in
    let p = ap (λ (ps : List Placed). length ps) o.pending ∙ length-append c.pending (record { row = row; item = x } ∷ []) in record {
      has = o.has;
      apart = (subst (λ ts. AllApart (items_in ts)) (sym o.trees.0) apart, o.apart);
      order_writes = ap (λ ts. in_order (held_of Write (items_in ts))) o.trees.0;
      order_reads = o.order;
      came_writes = λ u m. inl (subst (Among u) o.trees.0 m);
      came_reads = λ u m. subst (Among u) o.trees.1 m;
      came_pending = λ u m. ⊎_elim inl (λ k. inr (last u k)) (in-append u c.pending (record { row = row; item = x } ∷ []) (subst (IsIn u) o.pending m));
      many = (let z = p in omega arith);
      spent = (let z = p in let k = o.spent in omega arith);
      stay = o.stay;
    }
  where
    last : (u : Placed) → (record { row = row; item = x } ≡ u) ⊎ ⊥ → u ≡ record { row = row; item = x }
    last u (inl z) = sym z
    last u (inr x'') = elim x'' [ ]
