-- At the end a session's entries follow its commands, in what its pass has been shown and in the whole history.
use Rattle.std.proofs.Common.{◌≡◌, ℕ, ◌==◌, cond, List, [], ◌∷◌, refl, sym}
use Rattle.std.proofs.Common.{◌∙◌, ap, subst, inl, inr}
use Rattle.std.specs.List.{filter}
use Rattle.latch_model.specs.declared.history.Entry.{Entry}
use Rattle.latch_model.specs.declared.history.Entry.TheVariants.{Begun, Ended}
use Rattle.latch_model.proofs.Growing.{begun_of}
use Rattle.latch_model.proofs.Lists.{In, list_any-In}
use Rattle.latch_model.proofs.Members.{filter_of-In}
use Rattle.std.proofs.lemmas.Bool.{eq-eqb}
use Rattle.latch_model.specs.Histories.{is_begin}
use Rattle.script.specs.Follows.{AllMadeBy, Follows, blocks_of, entries_of, passed_in, session_of}
use Rattle.script.specs.declared.command.Command.{Command}
use Rattle.signal_board.specs.Rule.{IsPrefix, entries, own, who_of}
use Rattle.signal_board.specs.Views.{PassView}
use Rattle.signal_board.proofs.Lists.{own_entries}
use Rattle.waiter.specs.Says.{CoreId}
use Rattle.replay.specs.Sessions.{EachBegun, Idle, Standing}
use Rattle.replay.proofs.Standings.{made-to}

pub same_session : (e : Entry) → who_of e ≡ session_of e
same_session (Begun id lane who mode request) = refl
same_session (Ended id who grant cause fault) = refl

same_entries : (w : ℕ) (h : List Entry) → filter (λ (e : Entry). who_of e == w) h ≡ entries_of w h
same_entries w [] = refl
same_entries w (e ∷ es) =
    ap (λ (s : ℕ). cond (s == w) (e ∷ filter (λ (x : Entry). who_of x == w) es) (filter (λ (x : Entry). who_of x == w) es)) (same_session e)
    ∙ ap (λ (xs : List Entry). cond (session_of e == w) (e ∷ xs) xs) (same_entries w es)

pub own-entries_of : (w : ℕ) (h : List Entry) → entries (own w h) ≡ entries_of w h
own-entries_of w h = own_entries w h ∙ same_entries w h

-- what the pass has been shown
pub follows-shown : (core : CoreId) (p : PassView) (cs : List Command) → p.mine ≡ own p.who p.shown → Standing core p (blocks_of cs p.who) Idle →
    Follows p.shown p.who cs
follows-shown core p cs mine s =
    subst (λ (es : List Entry). AllMadeBy (passed_in p.shown) (blocks_of cs p.who) es) (ap entries mine ∙ own-entries_of p.who p.shown) s.stands

-- ---- the whole history

-- whoever begins in it was begun
each-of : (h es : List Entry) → ((e : Entry) → In e es → In e h) → EachBegun h es
each-of h [] within = tt
each-of h (Begun id lane who mode request ∷ es) within = (
  begun_of h id (list_any-In (is_begin id) h (Begun id lane who mode request) (within (Begun id lane who mode request) (inl refl)) (eq-eqb id id refl)),
  each-of h es (λ e i. within e (inr i)),
)
each-of h (Ended id who grant cause fault ∷ es) within = each-of h es (λ e i. within e (inr i))

each-own : (h : List Entry) (w : ℕ) → EachBegun h (entries_of w h)
each-own h w = each-of h (entries_of w h) (λ e i. (filter_of-In (λ (x : Entry). session_of x == w) h e i).0)

pub follows-grown : (h log : List Entry) (w : ℕ) (cs : List Command) → IsPrefix h log → own w h ≡ own w log → Follows h w cs → Follows log w cs
follows-grown h log w cs p same f =
    subst (λ (es : List Entry). AllMadeBy (passed_in log) (blocks_of cs w) es)
    (sym (own-entries_of w h) ∙ (ap entries same ∙ own-entries_of w log))
    (made-to h log (blocks_of cs w) (entries_of w h) p (each-own h w) f)
