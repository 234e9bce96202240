-- The worked examples of following a script.
use Rattle.std.proofs.Common.{◌≡◌, ℕ, List, refl, sym, ap, subst, ◌⊎◌, inl, inr, IsTrue, arith}
use Rattle.std.specs.List.{AllByRecursion}
use Rattle.std.proofs.lemmas.List.Elements.{All-from_recursion, recursion_from_All}
use Rattle.latch_model.specs.Declaration.{Declaration}
use Rattle.latch_model.specs.declared.history.Entry.{Entry}
use Rattle.latch_model.specs.declared.history.Grant.TheVariants.{Never, Checked}
use Rattle.script.specs.Conflicting.{checked_first, checked_second, checking, one_by_one, one_session, two_blocks, two_sessions, waiting_behind}
use Rattle.script.specs.Conflicting.{with_another_line, with_session_three, with_sessions_exchanged, without_an_end, without_latches}
use Rattle.script.specs.Conflicting.{without_session_two, written}
use Rattle.script.specs.Follows.{Follows, FollowsScript, is_session_of, session_of}
use Rattle.script.specs.declared.command.Command.{Command}

-- the sessions of these scripts
sessions_of_two : (w : ℕ) → IsTrue (is_session_of two_sessions w) → (w ≡ 1) ⊎ (w ≡ 2)
sessions_of_two w h = grind arith

sessions_of_one : (w : ℕ) → IsTrue (is_session_of one_session w) → w ≡ 1
sessions_of_one w h = grind arith

each_of_two : (h : List Entry) (cs : List Command) → Follows h 1 cs → Follows h 2 cs → (w : ℕ) → (w ≡ 1) ⊎ (w ≡ 2) → Follows h w cs
each_of_two h cs one two w (inl e) = subst (λ (v : ℕ). Follows h v cs) (sym e) one
each_of_two h cs one two w (inr e) = subst (λ (v : ℕ). Follows h v cs) (sym e) two

abbrev AreOfScript : List Entry → List Command → Type 0
AreOfScript h cs = AllByRecursion (λ e. IsTrue (is_session_of cs (session_of e))) h

of_two : (h : List Entry) → Follows h 1 two_sessions → Follows h 2 two_sessions → AreOfScript h two_sessions → FollowsScript h two_sessions
of_two h one two others = record {
  each = λ w is. each_of_two h two_sessions one two w (sessions_of_two w is);
  no_others = All-from_recursion (λ e. IsTrue (is_session_of two_sessions (session_of e))) h others;
}

pub one_by_one_follows : FollowsScript one_by_one two_sessions
one_by_one_follows = of_two one_by_one (record { mode = refl; declared = refl; same_request = refl; ends = refl }, tt)
    (record { mode = refl; declared = refl; same_request = refl; ends = refl }, tt) (refl, (refl, (refl, (refl, tt))))

pub waiting_follows : (n : ℕ) → FollowsScript (waiting_behind n) two_sessions
waiting_follows n = of_two (waiting_behind n) (record { mode = refl; declared = refl; same_request = refl; ends = refl }, tt)
    (record { mode = refl; declared = refl; same_request = refl; ends = refl }, tt) (refl, (refl, (refl, (refl, tt))))

pub no_session_two : FollowsScript without_session_two two_sessions → ⊥
no_session_two f = f.each 2 refl

pub no_latches : FollowsScript without_latches two_sessions → ⊥
no_latches f = let e = ap (λ (d : Declaration). d.latches) (f.each 2 refl).0.declared in cc

pub another_line : FollowsScript with_another_line two_sessions → ⊥
another_line f = let e = ap (λ (d : Declaration). d.tag) (f.each 2 refl).0.declared in absurd (omega arith)

pub exchanged_sessions : FollowsScript with_sessions_exchanged two_sessions → ⊥
exchanged_sessions f = let e = ap (λ (d : Declaration). d.tag) (f.each 2 refl).0.declared in absurd (omega arith)

pub no_end : FollowsScript without_an_end two_sessions → ⊥
no_end f = f.each 2 refl

pub session_three : FollowsScript with_session_three two_sessions → ⊥
session_three f =
    let others = recursion_from_All (λ e. IsTrue (is_session_of two_sessions (session_of e))) with_session_three f.no_others in
    let third = others.1.1.1.1.0 in
    cc

-- ---- two blocks of one session

pub blocks_in_order : FollowsScript (two_blocks 2 4) one_session
blocks_in_order = record {
  each = λ w is. subst (λ (v : ℕ). Follows (two_blocks 2 4) v one_session) (sym (sessions_of_one w is)) (
    record { mode = refl; declared = refl; same_request = refl; ends = refl },
    (record { mode = refl; declared = refl; same_request = refl; ends = refl }, tt),
  );
  no_others = All-from_recursion (λ e. IsTrue (is_session_of one_session (session_of e))) (two_blocks 2 4) (refl, (refl, (refl, (refl, tt))));
}

pub exchanged_blocks : FollowsScript (two_blocks 4 2) one_session → ⊥
exchanged_blocks f = let e = ap (λ (d : Declaration). d.tag) (f.each 1 refl).0.declared in absurd (omega arith)

-- ---- checks

sessions_checking : (w : ℕ) → IsTrue (is_session_of checking w) → (w ≡ 1) ⊎ (w ≡ 2)
sessions_checking w h = grind arith

of_checking : (h : List Entry) → Follows h 1 checking → Follows h 2 checking → AreOfScript h checking → FollowsScript h checking
of_checking h one two others = record {
  each = λ w is. each_of_two h checking one two w (sessions_checking w is);
  no_others = All-from_recursion (λ e. IsTrue (is_session_of checking (session_of e))) h others;
}

pub check_passes : FollowsScript (checked_first (Checked written)) checking
check_passes = of_checking (checked_first (Checked written)) (record { mode = refl; declared = refl; same_request = refl; ends = (refl, refl, refl) }, tt)
    (record { mode = refl; declared = refl; same_request = refl; ends = refl }, tt) (refl, (refl, (refl, (refl, tt))))

pub check_must_pass : FollowsScript (checked_first Never) checking → ⊥
check_must_pass f = let e = (f.each 1 refl).0.ends.0 in cc

pub check_fails : FollowsScript (checked_second Never) checking
check_fails = of_checking (checked_second Never) (record { mode = refl; declared = refl; same_request = refl; ends = (refl, refl, refl) }, tt)
    (record { mode = refl; declared = refl; same_request = refl; ends = refl }, tt) (refl, (refl, (refl, (refl, tt))))

pub check_must_fail : FollowsScript (checked_second (Checked written)) checking → ⊥
check_must_fail f = let e = (f.each 1 refl).0.ends.0 in cc
