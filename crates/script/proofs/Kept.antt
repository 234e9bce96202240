-- What is kept of a name follows the commands, one after the other.
use Rattle.std.proofs.Common.{◌≡◌, ℕ, Bool, true, false, ◌||◌, cond, eqb, List, [], ◌∷◌, ◌++◌, Option, Some, None, refl, sym, ap, ◌∙◌}
use Rattle.std.specs.List.{list_any}
use Rattle.std.specs.Option.{option_map}
use Rattle.std.proofs.lemmas.List.Folds.{list_any-append}
use Rattle.std.proofs.lemmas.Option.{none-some}
use Rattle.latch_model.specs.declared.latch.Latch.{Latch}
use Rattle.latch_model.specs.declared.latch.Mode.{Mode}
use Rattle.latch_model.specs.declared.latch.Mode.TheVariants.{Acquire, Optimistic, Look}
use Rattle.latch_model.specs.declared.latch.Policy.{Policy}
use Rattle.script.specs.Commands.{same_name, opens, opens_optimistic, waits_for, releases}
use Rattle.script.specs.Names.{Tracks, used_in, owned_by, optimistic_in, waited_in, released_in, opens_for, is_optimistic, with_wait, with_release}
use Rattle.script.specs.declared.command.Command.{Command}
use Rattle.script.specs.declared.command.Command.TheVariants.{Begin, Wait, Release}
use Rattle.script.specs.declared.draft.Opened.{Opened}
use Rattle.script.proofs.Choices.{or_no, or_right, and_no, and_true}

-- how what is kept of the name q changes with one command
pub record Moves (old new : Option Opened) (c : Command) (q : List ℕ) : Type 0 where
  pub used : used_in new ≡ (used_in old || opens q c)
  pub owner : (s : ℕ) → owned_by s new ≡ (owned_by s old || opens_for s q c)
  pub optimistic : optimistic_in new ≡ (optimistic_in old || opens_optimistic q c)
  pub waited : waited_in new ≡ (waited_in old || waits_for q c)
  pub released : released_in new ≡ (released_in old || releases q c)

more : (p : Command → Bool) (cs : List Command) (c : Command) (b : Bool) → list_any p cs ≡ b → list_any p (cs ++ c ∷ []) ≡ (b || p c)
more p cs c b e = list_any-append p cs (c ∷ []) ∙ ap (λ (x : Bool). x || (p c || false)) e ∙ ap (λ (x : Bool). b || x) (sym (or_no (p c)))

pub track : (old new : List ℕ → Option Opened) (cs : List Command) (c : Command) → Tracks old cs → ((q : List ℕ) → Moves (old q) (new q) c q)
    → Tracks new (cs ++ c ∷ [])
track old new cs c t m = record {
  used = λ q. more (opens q) cs c (used_in (old q)) (t.used q) ∙ sym (m q).used;
  owner = λ q s. more (opens_for s q) cs c (owned_by s (old q)) (t.owner q s) ∙ sym ((m q).owner s);
  optimistic = λ q. more (opens_optimistic q) cs c (optimistic_in (old q)) (t.optimistic q) ∙ sym (m q).optimistic;
  waited = λ q. more (waits_for q) cs c (waited_in (old q)) (t.waited q) ∙ sym (m q).waited;
  released = λ q. more (releases q) cs c (released_in (old q)) (t.released q) ∙ sym (m q).released;
}

-- ---- an opening, of a name that isn't used

opens_as : (session : ℕ) (name q : List ℕ) (mode : Mode) (policy : Policy) (turns : Option ℕ) (latches : List Latch) → same_name name q ≡ true
    → is_optimistic mode ≡ opens_optimistic q (Begin session name mode policy turns latches)
opens_as session name q Acquire policy turns latches e = refl
opens_as session name q Optimistic policy turns latches e = sym e
opens_as session name q Look policy turns latches e = refl

opens_other : (session : ℕ) (name q : List ℕ) (mode : Mode) (policy : Policy) (turns : Option ℕ) (latches : List Latch) → same_name name q ≡ false
    → opens_optimistic q (Begin session name mode policy turns latches) ≡ false
opens_other session name q Acquire policy turns latches e = refl
opens_other session name q Optimistic policy turns latches e = e
opens_other session name q Look policy turns latches e = refl

pub record Fresh (o : Opened) (who : ℕ) (mode : Mode) : Type 0 where
  pub session : o.session ≡ who
  pub optimistic : o.optimistic ≡ is_optimistic mode
  pub waited : o.waited ≡ false
  pub released : o.released ≡ false

pub begin_moves : (session : ℕ) (name : List ℕ) (mode : Mode) (policy : Policy) (turns : Option ℕ) (latches : List Latch) (o : Opened) (q : List ℕ)
    (old : Option Opened) (b : Bool) → same_name name q ≡ b
    → (b ≡ true → old ≡ None) → Fresh o session mode → Moves old (cond b (Some o) old) (Begin session name mode policy turns latches) q
begin_moves session name mode policy turns latches o q None true e h f = record {
  used = sym e;
  owner = λ s. rw (f.session, e) (sym (and_true (eqb session s)));
  optimistic = f.optimistic ∙ opens_as session name q mode policy turns latches e;
  waited = f.waited;
  released = f.released;
}
begin_moves session name mode policy turns latches o q (Some x) true e h f = absurd (none-some x (sym (h refl)))
begin_moves session name mode policy turns latches o q old false e h f = record {
  used = rw e (or_no (used_in old));
  owner = λ s. rw (e, and_no (eqb session s)) (or_no (owned_by s old));
  optimistic = rw (opens_other session name q mode policy turns latches e) (or_no (optimistic_in old));
  waited = or_no (waited_in old);
  released = or_no (released_in old);
}

-- ---- a wait and a release, of a name that is used

pub wait_moves : (name q : List ℕ) (old : Option Opened) (b : Bool) → same_name name q ≡ b → (b ≡ true → used_in old ≡ true)
    → Moves old (cond b (option_map with_wait old) old) (Wait name) q
wait_moves name q None true e h = let u : false ≡ true = h refl in absurd cc
wait_moves name q (Some x) true e h = record {
  used = refl;
  owner = λ s. or_no (eqb x.session s);
  optimistic = or_no x.optimistic;
  waited = sym (or_right x.waited (same_name name q) e);
  released = or_no x.released;
}
wait_moves name q old false e h = record {
  used = or_no (used_in old);
  owner = λ s. or_no (owned_by s old);
  optimistic = or_no (optimistic_in old);
  waited = rw e (or_no (waited_in old));
  released = or_no (released_in old);
}

pub release_moves : (name q : List ℕ) (old : Option Opened) (b : Bool) → same_name name q ≡ b → (b ≡ true → used_in old ≡ true)
    → Moves old (cond b (option_map with_release old) old) (Release name) q
release_moves name q None true e h = let u : false ≡ true = h refl in absurd cc
release_moves name q (Some x) true e h = record {
  used = refl;
  owner = λ s. or_no (eqb x.session s);
  optimistic = or_no x.optimistic;
  waited = or_no x.waited;
  released = sym (or_right x.released (same_name name q) e);
}
release_moves name q old false e h = record {
  used = or_no (used_in old);
  owner = λ s. or_no (owned_by s old);
  optimistic = or_no (optimistic_in old);
  waited = or_no (waited_in old);
  released = rw e (or_no (released_in old));
}
