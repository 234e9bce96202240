-- A check of the optimistic request in hand answers as the definition of what a block's checks passed.
use Rattle.std.proofs.Common.{◌≡◌, ℕ, ◌+◌, ◌&&◌, Bool, true, false, not, cond, IsTrue, List, [], ◌∷◌, Option, Some, None, refl, sym, ◌∙◌}
use Rattle.std.proofs.Common.{ap, subst, inl, inr, ◌||◌}
use Rattle.std.specs.List.{list_all, list_any, position, position_from}
use Rattle.std.proofs.lemmas.Bool.{false_from_ne_true}
use Rattle.std.proofs.lemmas.Iterator.Adapters.{position_from-zero}
use Rattle.latch_model.specs.Checks.{is_declared}
use Rattle.latch_model.specs.Histories.{Begin, HeldLatch, entry_of, in_front, latches_held, latches_of, listed, met_in, snapshot_of}
use Rattle.latch_model.specs.Latches.{conflict, lies_in_latch}
use Rattle.latch_model.specs.declared.history.Entry.{Entry}
use Rattle.latch_model.specs.declared.latch.Latch.{Latch}
use Rattle.latch_model.proofs.Declared.{captured_if_declared}
use Rattle.latch_model.proofs.Lists.{In, list_any-In}
use Rattle.latch_model.proofs.Meeting.{Any-In, Any_of, Captured, met_in-In, met_in_of-In}
use Rattle.latch_model.proofs.Members.{list_any_of}
use Rattle.std.specs.Option.{option_map_or}
use Rattle.script.specs.Follows.{Block, called_cause, has_wait, is_called, passed_check, passed_in}
use Rattle.script.specs.declared.command.Command.{Command}
use Rattle.script.specs.declared.command.Command.TheVariants.{Check}
use Rattle.signal_board.specs.Rule.{begun_as}
use Rattle.signal_board.specs.Views.{PassView, RequestView}
use Rattle.waiter.specs.Says.{CoreId, OptimistSays}
use Rattle.waiter.specs.Polls.{Checks}
use Rattle.waiter.specs.declared.optimist.Checked.{Checked}
use Rattle.waiter.specs.declared.optimist.Checked.TheVariants as answered
use Rattle.replay.specs.Blocks.{GrowsBy, with_more}
use Rattle.replay.specs.Sessions.{Checking, IsChecking, Standing}
use Rattle.replay.proofs.Made.{called-more, passed-more, waits-more}
use Rattle.replay.proofs.Turns.{busy-more}

-- ---- whether each asked latch is declared

all_pass : {X : Type 0} (d : X → Bool) (n : ℕ) (xs : List X) → position_from (λ x. not (d x)) n xs ≡ None → list_all d xs ≡ true
all_pass d n [] e = refl
all_pass d n (x ∷ xs) e = by (d x) e (all_pass d (n + 1) xs)
  where
    by : (b : Bool) → cond (not b) (Some n) (position_from (λ y. not (d y)) (n + 1) xs) ≡ None
        → (position_from (λ y. not (d y)) (n + 1) xs ≡ None → list_all d xs ≡ true) → (b && list_all d xs) ≡ true
    by true u rest = rest u
    by false u rest = cc

not_all_pass : {X : Type 0} (d : X → Bool) (n i : ℕ) (xs : List X) → position_from (λ x. not (d x)) n xs ≡ Some i → list_all d xs ≡ false
not_all_pass d n i [] e = cc
not_all_pass d n i (x ∷ xs) e = by (d x) e (not_all_pass d (n + 1) i xs)
  where
    by : (b : Bool) → cond (not b) (Some n) (position_from (λ y. not (d y)) (n + 1) xs) ≡ Some i
        → (position_from (λ y. not (d y)) (n + 1) xs ≡ Some i → list_all d xs ≡ false) → (b && list_all d xs) ≡ false
    by true u rest = rest u
    by false u rest = refl

each_passes : {X : Type 0} (d : X → Bool) (xs : List X) → list_all d xs ≡ true → (x : X) → In x xs → d x ≡ true
each_passes d [] all x there = absurd there
each_passes d (y ∷ ys) all x there = by (d y) refl all there (λ u i. each_passes d ys u x i)
  where
    by : (b : Bool) → d y ≡ b → (b && list_all d ys) ≡ true → In x (y ∷ ys) → (list_all d ys ≡ true → In x ys → d x ≡ true) → d x ≡ true
    by true is u (inl e) rest = ap d (sym e) ∙ is
    by true is u (inr i) rest = rest u i
    by false is u i rest = cc

-- ---- whether an asked latch meets one that was held

abbrev meets_held : List HeldLatch → Latch → Bool
meets_held held l = list_any (λ (x : HeldLatch). conflict l x.latch) held

module _ (own : List Latch) (held : List HeldLatch) (asked : List Latch) (all : list_all (λ l. list_any (lies_in_latch l) own) asked ≡ true) where
  captured : (l : Latch) → In l asked → Captured own l
  captured l there = captured_if_declared own l (each_passes (λ m. list_any (lies_in_latch m) own) asked all l there)

  -- where nothing is met, nothing in conflict was held
  free : met_in (snapshot_of own held) asked ≡ [] → list_any (meets_held held) asked ≡ false
  free none = false_from_ne_true (list_any (meets_held held) asked) (λ some.
      let l = list_any_of (meets_held held) asked some in
      let x = list_any_of (λ (y : HeldLatch). conflict l.0 y.latch) held l.2 in
      subst (λ (xs : List HeldLatch). In (listed x.0) xs) none
      (met_in-In own held asked x.0 captured x.1 (Any-In (λ m. IsTrue (conflict m x.0.latch)) asked l.0 l.1 x.2)))

  -- and where something is, something was
  taken : (y : HeldLatch) (rest : List HeldLatch) → met_in (snapshot_of own held) asked ≡ y ∷ rest → list_any (meets_held held) asked ≡ true
  taken y rest some =
      let x = met_in_of-In own held asked y (subst (In y) (sym some) (inl refl)) in
      let l = Any_of (λ m. IsTrue (conflict m x.0.latch)) asked x.3 in
      list_any-In (meets_held held) asked l.0 l.1 (list_any-In (λ (z : HeldLatch). conflict l.0 z.latch) held x.0 x.1 l.2)

-- ---- the check

module _ (own : List Latch) (held : List HeldLatch) (asked : List Latch) (before : Option (List Latch)) where
  abbrev decided : Bool → Bool → Option (List Latch)
  decided all some = cond all (cond some None (Some asked)) before

  undeclared : (i : ℕ) → position (λ l. not (is_declared own l)) asked ≡ Some i → passed_check own held asked before ≡ before
  undeclared i at =
      ap (λ (x : Bool). decided x (list_any (meets_held held) asked))
      (not_all_pass (is_declared own) 0 i asked (sym (position_from-zero (λ l. not (is_declared own l)) asked) ∙ at))

  module _ (at : position (λ l. not (is_declared own l)) asked ≡ None) where
    declared : list_all (λ l. list_any (lies_in_latch l) own) asked ≡ true
    declared = all_pass (is_declared own) 0 asked (sym (position_from-zero (λ l. not (is_declared own l)) asked) ∙ at)

    passes : met_in (snapshot_of own held) asked ≡ [] → passed_check own held asked before ≡ Some asked
    passes none =
        ap (λ (x : Bool). decided x (list_any (meets_held held) asked)) declared
        ∙ ap (λ (x : Bool). cond x None (Some asked)) (free own held asked declared none)

    meets : (y : HeldLatch) (rest : List HeldLatch) → met_in (snapshot_of own held) asked ≡ y ∷ rest → passed_check own held asked before ≡ None
    meets y rest some =
        ap (λ (x : Bool). decided x (list_any (meets_held held) asked)) declared
        ∙ ap (λ (x : Bool). cond x None (Some asked)) (taken own held asked declared y rest some)

-- ---- of the request in hand

or_false : (x : Bool) → (x || false) ≡ x
or_false true = refl
or_false false = refl

module _ (h : List Entry) (b : Block) (name : List ℕ) (asked : List Latch) (o : OptimistSays) (k : IsChecking h b o) where
  own_is : latches_of h o.r.id ≡ b.latches
  own_is = ap (λ x. option_map_or (λ (y : Begin). y.request.latches) x []) k.begun ∙ ap (λ x. x.latches) k.declared

  shot_here : o.r.shot ≡ snapshot_of b.latches (latches_held (in_front h o.r.id))
  shot_here = k.shot_is ∙ ap (λ (ls : List Latch). snapshot_of ls (latches_held (in_front h o.r.id))) own_is

  own_declared : o.r.request.latches ≡ b.latches
  own_declared = ap (λ x. x.latches) k.declared

  -- the block with the check, whatever it passed
  checked : (met : Option HeldLatch) (passed : Option (List Latch)) →
      passed ≡ passed_check b.latches (latches_held (in_front h o.r.id)) asked (passed_in h o.r.id b) →
      IsChecking h (with_more b (Check name asked)) (record o { met = met; passed = passed })
  checked met passed is = record {
    begun = k.begun;
    mode = k.mode;
    is_optimistic = k.is_optimistic;
    declared = k.declared;
    waits = waits-more b (Check name asked) ∙ (or_false (has_wait b) ∙ k.waits);
    cause = k.cause ∙ ap called_cause (sym (called-more b (Check name asked) ∙ or_false (is_called b)));
    shot_is = k.shot_is;
    passed = is ∙ sym (passed-more h o.r.id b (Check name asked));
  }

  pub checked-undeclared : (i : ℕ) → position (λ l. not (is_declared o.r.request.latches l)) asked ≡ Some i →
      IsChecking h (with_more b (Check name asked)) o
  checked-undeclared i at =
      checked o.met o.passed (k.passed ∙ sym (undeclared b.latches (latches_held (in_front h o.r.id)) asked (passed_in h o.r.id b) i
      (subst (λ (ls : List Latch). position (λ l. not (is_declared ls l)) asked ≡ Some i) own_declared at)))

  module _ (at : position (λ l. not (is_declared o.r.request.latches l)) asked ≡ None) where
    here : position (λ l. not (is_declared b.latches l)) asked ≡ None
    here = subst (λ (ls : List Latch). position (λ l. not (is_declared ls l)) asked ≡ None) own_declared at

    pub checked-clear : met_in o.r.shot asked ≡ [] → IsChecking h (with_more b (Check name asked)) (record o { passed = Some asked })
    checked-clear none =
        checked o.met (Some asked) (sym (passes b.latches (latches_held (in_front h o.r.id)) asked (passed_in h o.r.id b) here
        (ap (λ s. met_in s asked) (sym shot_here) ∙ none)))

    pub checked-met : (y : HeldLatch) (rest : List HeldLatch) → met_in o.r.shot asked ≡ y ∷ rest →
        IsChecking h (with_more b (Check name asked)) (record o { met = Some y; passed = None })
    checked-met y rest some =
        checked (Some y) None (sym (meets b.latches (latches_held (in_front h o.r.id)) asked (passed_in h o.r.id b) here y rest
        (ap (λ s. met_in s asked) (sym shot_here) ∙ some)))

-- At the level of the session: any of the three.
pub checking-checked : (core : CoreId) (p : PassView) (bs ds : List Block) (c : Command) → GrowsBy c bs ds → (o now : OptimistSays) →
    (o.core ≡ now.core) → (o.r ≡ now.r) → ((last : Block) → IsChecking p.shown last o → IsChecking p.shown (with_more last c) now) →
    Standing core p bs (Checking o) → Standing core p ds (Checking now)
checking-checked core p bs ds c grows o now t r f s = record {
  each = s.each;
  stands = busy-more core p bs ds c grows (Checking o) (Checking now) s.stands
      (λ last own u. (f last u.0, u.1 ∙ ap (λ (x : RequestView). entry_of (begun_as x) ∷ []) r));
  given = (sym t ∙ s.given.0, ap (λ (x : RequestView). x.who) (sym r) ∙ s.given.1);
}

-- By the answer of the check.
pub checks-stand : (core : CoreId) (p : PassView) (bs ds : List Block) (name : List ℕ) (asked : List Latch) → GrowsBy (Check name asked) bs ds →
    (o now : OptimistSays) (answer : Checked) → Checks o now asked answer → Standing core p bs (Checking o) → Standing core p ds (Checking now)
checks-stand core p bs ds name asked grows o now answered.Clear k s =
    subst (λ (x : OptimistSays). Standing core p ds (Checking x)) (sym k.2)
    (checking-checked core p bs ds (Check name asked) grows o (record o { passed = Some asked }) refl refl
    (λ last is. checked-clear p.shown last name asked o is k.0 k.1) s)
checks-stand core p bs ds name asked grows o now (answered.Met by place back) k s =
    subst (λ (x : OptimistSays). Standing core p ds (Checking x)) (sym k.2.5)
    (checking-checked core p bs ds (Check name asked) grows o (record o { met = Some k.2.0; passed = None }) refl refl
    (λ last is. checked-met p.shown last name asked o is k.0 k.2.0 k.2.1 k.2.2) s)
checks-stand core p bs ds name asked grows o now (answered.NotDeclared index back) k s =
    subst (λ (x : OptimistSays). Standing core p ds (Checking x)) (sym k.2)
    (checking-checked core p bs ds (Check name asked) grows o o refl refl (λ last is. checked-undeclared p.shown last name asked o is index k.0) s)
