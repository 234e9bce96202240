-- A request with one latch, where nothing else is held: what the tests stand on.
use Rattle.std.proofs.Common.{◌≡◌, ℕ, zero, suc, ◌≤◌, ◌&&◌, true, false, true≢false, Bool, not, List, [], ◌∷◌}
use Rattle.std.proofs.Common.{length, slice_get, Some, ap, sym, refl, subst, arith, inl}
use Rattle.span_key.specs.Scopes.{scope_if, scope_of}
use Rattle.span_key.specs.Spans.{is_local}
use Rattle.span_key.specs.declared.scopes.Scope.{Scope}
use Rattle.span_key.specs.declared.scopes.Scope.TheVariants.{Global, Local}
use Rattle.latch_model.specs.Histories.{HeldLatch, captures, list_of}
use Rattle.latch_model.specs.Latches.{at_normal, has_access, in_scope, reads, writes}
use Rattle.latch_model.specs.declared.latch.Access.{Access}
use Rattle.latch_model.specs.declared.latch.Access.TheVariants.{Read, Write}
use Rattle.latch_model.specs.declared.latch.Latch.{Latch}
use Rattle.latch_shots.specs.Held.{others}
use Rattle.held_latches.specs.Content.{EachOf, IsIn}
use Rattle.held_latches.specs.Holding.{HasSpare, HoldsOwn, InScopes, MayInsert, own_latch, slots_of, writer_of}
use Rattle.held_latches.specs.Lists.{capture, inserted, no_lists, own_from, taken_if, with_held, with_if, without_by}
use Rattle.held_latches.specs.Taking.{IsOwn, OnlyOwn}
use Rattle.held_latches.specs.declared.held.HeldLatches.{HeldLatches}
use Rattle.held_latches.proofs.Inserting.{is-in}

-- ---- its begin
taken-none : (b : Bool) → taken_if b [] ≡ []
taken-none true = refl
taken-none false = refl

pub capture-none : (ls : List Latch) → capture ls no_lists ≡ no_lists
capture-none ls = λ i. record {
  global_reads = taken-none (captures ls Global Read) i;
  global_writes = taken-none (captures ls Global Write) i;
  local_reads = taken-none (captures ls Local Read) i;
  local_writes = taken-none (captures ls Local Write) i;
}

none-below : (k : ℕ) → suc k ≤ 0 → ⊥
none-below k low = omega arith

-- no list of one has two
two : (n : ℕ) → suc (suc n) ≡ 1 → ⊥
two n one = omega arith

pub none-in-scopes : InScopes no_lists
none-in-scopes = record {
  global = (λ k d low. absurd (none-below k low), λ k d low. absurd (none-below k low));
  local = (λ k d low. absurd (none-below k low), λ k d low. absurd (none-below k low));
}

pub may-come : (h : HeldLatches) (ls : List Latch) → HasSpare h no_lists 0 64 → slots_of h ≡ 16 → writer_of h Global ≡ 0 → writer_of h Local ≡ 0
    → length ls ≡ 1 → MayInsert h no_lists 0 51 1 0 (length ls)
may-come h ls s slots g l one = record {
  has = record { holds = s.holds; spare = let a = s.spare in omega arith };
  fits = omega arith;
  low = omega arith;
  within = omega arith;
  writers = (omega arith, omega arith);
  apart = (tt, tt, tt, tt);
}

-- ---- its end
both : (a b : Bool) → a ≡ true → b ≡ true → (a && b) ≡ true
both a b e f = rw e f

in-one : (b : Bool) (x : HeldLatch) → b ≡ true → IsIn x (with_if b x [])
in-one true x e = inl refl
in-one false x e = absurd (true≢false (sym e))

own-in : (l : Latch) (scope : Scope) (access : Access) → scope_of l.span ≡ scope → l.access ≡ access
    → IsIn (own_latch 1 0 0 l) (list_of (with_held (own_latch 1 0 0 l) no_lists) scope access)
own-in l Global Read s a = in-one (in_scope Global (at_normal l) && reads l.access) (own_latch 1 0 0 l) (both _ _ (is-in Global l s).0 (ap reads a))
own-in l Global Write s a = in-one (in_scope Global (at_normal l) && writes l.access) (own_latch 1 0 0 l) (both _ _ (is-in Global l s).0 (ap writes a))
own-in l Local Read s a = in-one (in_scope Local (at_normal l) && reads l.access) (own_latch 1 0 0 l) (both _ _ (is-in Local l s).0 (ap reads a))
own-in l Local Write s a = in-one (in_scope Local (at_normal l) && writes l.access) (own_latch 1 0 0 l) (both _ _ (is-in Local l s).0 (ap writes a))

own-at : (x : Latch) (k : ℕ) (l : Latch) → slice_get (x ∷ []) k ≡ Some l
    → IsIn (own_latch 1 0 k l) (list_of (inserted (own_from 1 0 0 (x ∷ [])) no_lists) (scope_of l.span) l.access)
own-at x zero l is =
    let e : x ≡ l = cc in
    subst (λ y. IsIn (own_latch 1 0 0 l) (list_of (with_held (own_latch 1 0 0 y) no_lists) (scope_of l.span) l.access)) (sym e)
    (own-in l (scope_of l.span) l.access refl refl)
own-at x (suc k) l is = cc

pub holds-own : (ls : List Latch) → length ls ≡ 1 → HoldsOwn (inserted (own_from 1 0 0 ls) no_lists) 1 0 ls 0
holds-own [] one = λ k l low is. cc
holds-own (x ∷ []) one = λ k l low is. own-at x k l is
holds-own (x ∷ y ∷ ys) one = absurd (two (length ys) one)

each-one : (P : HeldLatch → Type 0) (b : Bool) (x : HeldLatch) → (b ≡ true → P x) → EachOf P (with_if b x [])
each-one P true x f = (f refl, tt)
each-one P false x f = tt

left-true : (a b : Bool) → (a && b) ≡ true → a ≡ true
left-true true b e = refl
left-true false b e = e

right-true : (a b : Bool) → (a && b) ≡ true → b ≡ true
right-true true b e = e
right-true false b e = absurd (true≢false (sym e))

not-local : (b : Bool) → not b ≡ true → scope_if b ≡ Global
not-local true e = absurd (true≢false (sym e))
not-local false e = refl

is-read : (a : Access) → reads a ≡ true → a ≡ Read
is-read Read e = refl
is-read Write e = absurd (true≢false (sym e))

is-write : (a : Access) → writes a ≡ true → a ≡ Write
is-write Read e = absurd (true≢false (sym e))
is-write Write e = refl

own-of : (l : Latch) (scope : Scope) (access : Access) → in_scope scope (at_normal l) && has_access access (at_normal l) ≡ true
    → IsOwn (l ∷ []) scope access (own_latch 1 0 0 l)
own-of l Global Read t = record {
  latch = l;
  here = refl;
  scope_is = not-local (is_local l.span) (left-true _ _ t);
  access_is = is-read l.access (right-true _ _ t);
}
own-of l Global Write t = record {
  latch = l;
  here = refl;
  scope_is = not-local (is_local l.span) (left-true _ _ t);
  access_is = is-write l.access (right-true _ _ t);
}
own-of l Local Read t = record {
  latch = l;
  here = refl;
  scope_is = ap scope_if (left-true (is_local l.span) _ t);
  access_is = is-read l.access (right-true _ _ t);
}
own-of l Local Write t = record {
  latch = l;
  here = refl;
  scope_is = ap scope_if (left-true (is_local l.span) _ t);
  access_is = is-write l.access (right-true _ _ t);
}

only-one : (l : Latch) → OnlyOwn (with_held (own_latch 1 0 0 l) no_lists) 1 (l ∷ [])
only-one l Global Read = each-one _ (in_scope Global (at_normal l) && has_access Read (at_normal l)) (own_latch 1 0 0 l) (λ t e. own-of l Global Read t)
only-one l Global Write = each-one _ (in_scope Global (at_normal l) && has_access Write (at_normal l)) (own_latch 1 0 0 l) (λ t e. own-of l Global Write t)
only-one l Local Read = each-one _ (in_scope Local (at_normal l) && has_access Read (at_normal l)) (own_latch 1 0 0 l) (λ t e. own-of l Local Read t)
only-one l Local Write = each-one _ (in_scope Local (at_normal l) && has_access Write (at_normal l)) (own_latch 1 0 0 l) (λ t e. own-of l Local Write t)

pub only-own : (ls : List Latch) → length ls ≡ 1 → OnlyOwn (inserted (own_from 1 0 0 ls) no_lists) 1 ls
only-own [] one = cc
only-own (x ∷ []) one = only-one x
only-own (x ∷ y ∷ ys) one = absurd (two (length ys) one)

others-none : (b : Bool) (x : HeldLatch) → x.by ≡ 1 → others 1 (with_if b x []) ≡ []
others-none true x e = rw e refl
others-none false x e = refl

gone-one : (x : HeldLatch) → x.by ≡ 1 → without_by 1 (with_held x no_lists) ≡ no_lists
gone-one x e = λ i. record {
  global_reads = others-none (in_scope Global x.latch && has_access Read x.latch) x e i;
  global_writes = others-none (in_scope Global x.latch && has_access Write x.latch) x e i;
  local_reads = others-none (in_scope Local x.latch && has_access Read x.latch) x e i;
  local_writes = others-none (in_scope Local x.latch && has_access Write x.latch) x e i;
}

pub all-gone : (ls : List Latch) → length ls ≡ 1 → without_by 1 (inserted (own_from 1 0 0 ls) no_lists) ≡ no_lists
all-gone [] one = cc
all-gone (x ∷ []) one = gone-one (own_latch 1 0 0 x) refl
all-gone (x ∷ y ∷ ys) one = absurd (two (length ys) one)
