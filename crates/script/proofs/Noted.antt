-- After a command, what a draft keeps is what the commands with this one say.
use Rattle.std.proofs.Common.{◌≡◌, ℕ, ◌<◌, ◌≤◌, Bool, true, false, not, ◌&&◌, cond, List, [], ◌∷◌, ◌++◌, length, get_or, set, Option, Some, None, Result}
use Rattle.std.proofs.Common.{Ok, Err, refl, sym, ap, subst, ◌∙◌, arith}
use Rattle.std.specs.Option.{option_map, IfSome}
use Rattle.std.specs.Result.{OnOk}
use Rattle.std.proofs.lemmas.Option.{none-some}
use Rattle.latch_model.specs.declared.latch.Latch.{Latch}
use Rattle.latch_model.specs.declared.latch.Mode.{Mode}
use Rattle.latch_model.specs.declared.latch.Policy.{Policy}
use Rattle.script.specs.Commands.{same_name, is_live, is_used, is_busy, live_cause, rule_cause}
use Rattle.script.specs.Names.{Keeps, KnowsNames, Sessions, find, used_in, released_in, is_optimistic, with_wait, with_release}
use Rattle.script.specs.declared.command.Command.TheVariants.{Begin, Wait, Release}
use Rattle.script.specs.declared.draft.Draft.{Draft}
use Rattle.script.specs.declared.draft.Opened.{Opened}
use Rattle.script.proofs.Busy.{same_is, open_sessions, wait_sessions, end_sessions, session_low}
use Rattle.script.proofs.Drafts.{used_is, live_is, busy_is}
use Rattle.script.proofs.Kept.{Moves, track, begin_moves, wait_moves, release_moves}
use Rattle.script.proofs.Choices.{and_parts, false-true}

pub on_both : {T E A B C : Type 0} (r : Result T E) → (A → B → C) → OnOk r A → OnOk r B → OnOk r C
on_both (Ok x) f a b = f a b
on_both (Err e) f a b = tt

-- ---- an opening

may_open : (a b : Bool) → cond {A = Option ℕ} a (Some 12) (cond b (Some 13) None) ≡ None → (a ≡ false) × (b ≡ false)
may_open true b e = absurd (none-some {A = ℕ} 12 (sym e))
may_open false true e = absurd (none-some {A = ℕ} 13 (sym e))
may_open false false e = (refl, refl)

not_used : (x : Option Opened) → used_in x ≡ false → x ≡ None
not_used None e = refl
not_used (Some o) e = absurd (false-true (sym e))

pub begin_follows : (d e : Draft) (session : ℕ) (name : List ℕ) (mode : Mode) (policy : Policy) (turns : Option ℕ) (latches : List Latch) (o : Opened)
    → Keeps d
    → rule_cause d.commands.items (Begin session name mode policy turns latches) ≡ None → session ≤ 64
    → o ≡ record { session = session; optimistic = is_optimistic mode; waited = false; released = false }
    → ((q : List ℕ) → find e q ≡ cond (same_name name q) (Some o) (find d q)) → e.busy ≡ set d.busy o.session true
    → KnowsNames e (d.commands.items ++ Begin session name mode policy turns latches ∷ [])
begin_follows d e session name mode policy turns latches o k allowed low fresh is busy =
    let cs = d.commands.items in
    let may = may_open (is_busy cs session) (is_used cs name) allowed in
    let none : find d name ≡ None = not_used (find d name) (sym (used_is d name k) ∙ may.1) in
    let who : o.session ≡ session = ap (λ (x : Opened). x.session) fresh in
    record {
      tracks = track (find d) (find e) cs (Begin session name mode policy turns latches) k.tracks (λ q.
          subst (λ (x : Option Opened). Moves (find d q) x (Begin session name mode policy turns latches) q) (sym (is q))
          (begin_moves session name mode policy turns latches o q (find d q) (same_name name q) refl (λ h. ap (find d) (sym (same_is name q h))
          ∙ none) (record {
            session = who;
            optimistic = ap (λ (x : Opened). x.optimistic) fresh;
            waited = ap (λ (x : Opened). x.waited) fresh;
            released = ap (λ (x : Opened). x.released) fresh;
          })));
      sessions = subst (λ (b : List Bool). Sessions (find e) b) (sym busy) (open_sessions {old = find d} {new = find e} {name = name} (record {
        was = k.sessions;
        is = is;
        none = none;
        idle = ap (λ (s : ℕ). get_or d.busy s false) who ∙ sym (busy_is d session k) ∙ may.0;
        low = omega arith;
        fresh = ap (λ (x : Opened). x.released) fresh;
      }));
    }

-- ---- a wait and a release

live_so : (b : Bool) → cond {A = Option ℕ} b None (Some 14) ≡ None → b ≡ true
live_so true e = refl
live_so false e = absurd (none-some {A = ℕ} 14 (sym e))

-- a name that may be waited for is live
is_so : (d : Draft) (name : List ℕ) → Keeps d → live_cause d.commands.items name ≡ None → (used_in (find d name) && not (released_in (find d name))) ≡ true
is_so d name k allowed = sym (live_is d name k) ∙ live_so (is_live d.commands.items name) allowed

used_there : (d : Draft) (name q : List ℕ) → Keeps d → live_cause d.commands.items name ≡ None → same_name name q ≡ true → used_in (find d q) ≡ true
used_there d name q k allowed h =
    ap (λ (x : List ℕ). used_in (find d x)) (sym (same_is name q h))
    ∙ (and_parts (used_in (find d name)) (not (released_in (find d name))) (is_so d name k allowed)).0

pub wait_follows : (d e : Draft) (name : List ℕ) → Keeps d → live_cause d.commands.items name ≡ None
    → ((q : List ℕ) → find e q ≡ cond (same_name name q) (option_map with_wait (find d q)) (find d q)) → e.busy ≡ d.busy
    → KnowsNames e (d.commands.items ++ Wait name ∷ [])
wait_follows d e name k allowed is busy = record {
  tracks = track (find d) (find e) d.commands.items (Wait name) k.tracks (λ q.
      subst (λ (x : Option Opened). Moves (find d q) x (Wait name) q) (sym (is q))
      (wait_moves name q (find d q) (same_name name q) refl (used_there d name q k allowed)));
  sessions = subst (λ (b : List Bool). Sessions (find e) b) (sym busy) (wait_sessions (find d) (find e) d.busy name is k.sessions);
}

unnot : (b : Bool) → not b ≡ true → b ≡ false
unnot true h = absurd (false-true h)
unnot false h = refl

live_value : (x : Option Opened) → (used_in x && not (released_in x)) ≡ true → (o : Opened) × (x ≡ Some o) × (o.released ≡ false)
live_value None h = absurd (false-true h)
live_value (Some o) h = (o, refl, unnot o.released h)

if_some : (P : Opened → Type 0) (x : Option Opened) (o : Opened) → x ≡ Some o → IfSome x P → P o
if_some P x o e h = subst (λ (y : Option Opened). IfSome y P) e h

some_if : (P : Opened → Type 0) (x : Option Opened) (o : Opened) → x ≡ Some o → P o → IfSome x P
some_if P x o e h = subst (λ (y : Option Opened). IfSome y P) (sym e) h

pub release_low : (d : Draft) (name : List ℕ) → Keeps d → live_cause d.commands.items name ≡ None → IfSome (find d name) (λ o. o.session ≤ 64)
release_low d name k allowed =
    let w = live_value (find d name) (is_so d name k allowed) in
    let low : w.0.session < length d.busy = session_low {old = find d} {new = λ q. cond (same_name name q) (option_map with_release (find d q)) (find d q)}
    {name = name} (record { was = k.sessions; is = λ q. refl; some = w.1; live = w.2 }) in
    let size = k.sessions.size in
    some_if (λ o. o.session ≤ 64) (find d name) w.0 w.1 (omega arith)

pub release_follows : (d e : Draft) (name : List ℕ) → Keeps d → live_cause d.commands.items name ≡ None
    → ((q : List ℕ) → find e q ≡ cond (same_name name q) (option_map with_release (find d q)) (find d q))
    → IfSome (find d name) (λ o. e.busy ≡ set d.busy o.session false)
    → KnowsNames e (d.commands.items ++ Release name ∷ [])
release_follows d e name k allowed is busy =
    let w = live_value (find d name) (is_so d name k allowed) in
    record {
      tracks = track (find d) (find e) d.commands.items (Release name) k.tracks (λ q.
          subst (λ (x : Option Opened). Moves (find d q) x (Release name) q) (sym (is q))
          (release_moves name q (find d q) (same_name name q) refl (used_there d name q k allowed)));
      sessions = subst (λ (b : List Bool). Sessions (find e) b) (sym (if_some (λ o. e.busy ≡ set d.busy o.session false) (find d name) w.0 w.1 busy))
          (end_sessions {old = find d} {new = find e} {name = name} (record { was = k.sessions; is = is; some = w.1; live = w.2 }));
    }
