-- What a session has in hand after each of its commands.
use Rattle.std.proofs.Common.{◌≡◌, ℕ, true, false, List, [], ◌∷◌, ◌++◌, Option, Some, refl, sym, ◌∙◌, ap, subst}
use Rattle.latch_model.specs.Histories.{Begin, HeldLatch, begin_with, entry_of}
use Rattle.latch_model.specs.declared.history.Cause.{Cause}
use Rattle.latch_model.specs.declared.history.Cause.TheVariants.{None as no_cause, Called, From}
use Rattle.latch_model.specs.declared.history.Entry.{Entry}
use Rattle.latch_model.specs.declared.latch.Latch.{Latch}
use Rattle.latch_model.specs.declared.latch.Mode.TheVariants.{Acquire}
use Rattle.latch_model.specs.declared.latch.Policy.{Policy}
use Rattle.latch_model.specs.declared.latch.Policy.TheVariants.{Wait, Error}
use Rattle.script.specs.Follows.{AnyCause, Block, CauseOfAnother, NoCause, declaration_of}
use Rattle.script.specs.Follows.{is_poison, is_wait, passed_behind}
use Rattle.script.specs.declared.command.Command.{Command}
use Rattle.signal_board.specs.Rule.{begun_as, entries}
use Rattle.signal_board.specs.Says.{PassSays, first_cause}
use Rattle.signal_board.specs.Views.{PassView, RequestView}
use Rattle.waiter.specs.Says.{CoreId, EndingSays, GrantedSays, OpenedSays, OptimistSays}
use Rattle.latch_manager.specs.Making.{Began, Finished, Made, unpolled}
use Rattle.latch_manager.specs.Waiting.{CauseAfter, CauseFound, StillWaits, WaitGrants}
use Rattle.replay.specs.Blocks.{GrowsBy, new_block, with_more}
use Rattle.replay.specs.Sessions.{Busy, Checking, Hand, Holding, Idle}
use Rattle.replay.specs.Sessions.{OpenBlock, Over}
use Rattle.replay.specs.Sessions.{OverBy, Standing, Unreleased}
use Rattle.replay.proofs.Endings.{ends-over, opened-is_open}
use Rattle.replay.proofs.Hands.{checking-poisoned, checking-quiet, holding-poisoned, holding-quiet}
use Rattle.replay.proofs.Hands.{over-more}
use Rattle.replay.proofs.Openings.{opening_begun, opening_busy, opening_cause, opening_declared, opening_each, opening_mode, opening_who}

-- ---- causes

-- the cause with which a request comes out of a wait that came without one
pub found_other : (r : RequestView) (policy : Policy) (cause : Cause) → CauseFound r no_cause policy cause → CauseOfAnother cause
found_other r Wait no_cause k = tt
found_other r Wait Called k = absurd k
found_other r Wait (From p) k = tt
found_other r Error cause k = subst CauseOfAnother (sym k) tt

pub found_any : (r : RequestView) (policy : Policy) (cause : Cause) → CauseFound r no_cause policy cause → AnyCause false cause
found_any r Wait no_cause k = refl
found_any r Wait Called k = absurd k
found_any r Wait (From p) k = tt
found_any r Error cause k = subst (AnyCause false) (sym k) refl

pub found_none : (r : RequestView) (policy : Policy) (cause : Cause) → policy ≡ Error → CauseFound r no_cause policy cause → NoCause cause
found_none r Wait cause e k = cc
found_none r Error cause e k = k

from_none : (r : RequestView) (cause : Cause) → r.cause ≡ no_cause → CauseAfter r cause → CauseFound r no_cause r.request.policy cause
from_none r cause e k = subst (λ (c : Cause). CauseFound r c r.request.policy cause) e k

from_called : (r : RequestView) (cause : Cause) → r.cause ≡ Called → CauseAfter r cause → cause ≡ Called
from_called r cause e k = subst (λ (c : Cause). CauseFound r c r.request.policy cause) e k

-- ---- an opening

pub still-begun : (old new : RequestView) → StillWaits old new → begun_as new ≡ begun_as old
still-begun old new k = ap begun_as k.same

pub acquired-holds : (made : Made) (old new : PassSays) (line : ℕ) (policy : Policy) (turns : Option ℕ) (latches : List Latch) (opened : OpenedSays) →
    Began made old Acquire (declaration_of (new_block line Acquire policy turns latches)) opened new → (bs : List Block)
    → Standing made.core old.p bs Idle → (g : GrantedSays) → WaitGrants (unpolled opened) g →
    Standing made.core new.p (bs ++ new_block line Acquire policy turns latches ∷ []) (Holding g)
acquired-holds made old new line policy turns latches opened k bs s g w =
    let block : Block = new_block line Acquire policy turns latches in
    let same : begun_as g.r ≡ begun_as opened.r = ap (λ (x : GrantedSays). begun_as x.r) w.granted_is ∙ still-begun opened.r w.r w.still in
    record {
      each = opening_each made old new Acquire block opened k bs s;
      stands = opening_busy made old new Acquire block opened k bs s (Holding g) (
        record {
          begun = subst (λ (x : Begin). begin_with new.p.shown x.id ≡ Some x) (sym same) (opening_begun made old new Acquire block opened k bs s);
          mode = ap (λ (x : Begin). x.mode) same ∙ opening_mode made old new Acquire block opened k bs s;
          declared = ap (λ (x : Begin). x.request) same ∙ opening_declared made old new Acquire block opened k bs s;
          granted = (w.front, ap (λ (x : GrantedSays). x.grant) w.granted_is);
          cause =
              subst (λ (x : GrantedSays). AnyCause false x.r.cause) (sym w.granted_is)
              (found_any opened.r opened.r.request.policy w.r.cause
              (from_none opened.r w.r.cause (opening_cause made old new Acquire block opened k bs s) w.still.cause));
        },
        ap (λ (x : Begin). entry_of x ∷ []) (sym same),
      );
      given = (
        ap (λ (x : GrantedSays). x.core) w.granted_is ∙ ap (λ (x : OpenedSays). x.core) k.opened_is,
        ap (λ (x : Begin). x.who) same ∙ (ap (λ (x : OpenedSays). x.r.who) k.opened_is ∙ sym (opening_who made old new Acquire block opened k bs s)),
      );
    }

-- A request that was opened and then ended, with this cause behind its wait.
module _ (made : Made) (old mid new : PassSays) (block : Block) (opened : OpenedSays) (k : Began made old block.mode (declaration_of block) opened mid)
    (bs : List Block) (s : Standing made.core old.p bs Idle) (ending : EndingSays) (r : RequestView) (still : StillWaits opened.r r)
    (same : begun_as ending.r ≡ begun_as r) (cause : ending.r.cause ≡ r.cause) (f : Finished made mid ending new) where
  abbrev none : opened.r.cause ≡ no_cause
  none = opening_cause made old mid block.mode block opened k bs s

  came : CauseFound opened.r no_cause opened.r.request.policy ending.r.cause
  came = subst (CauseFound opened.r no_cause opened.r.request.policy) (sym cause) (from_none opened.r r.cause none still.cause)

  pub opened-over : OverBy block.mode block ending.grant ending.fault ending.r.cause → Standing made.core new.p (bs ++ block ∷ []) Over
  opened-over ends =
      ends-over made mid new (bs ++ block ∷ []) (begun_as opened.r) (opened-is_open made old mid block opened k bs s) ending f
      (same ∙ still-begun opened.r r still) ends

  pub opened-found : CauseOfAnother ending.r.cause
  opened-found = found_other opened.r opened.r.request.policy ending.r.cause came

  pub opened-failed : opened.r.request.policy ≡ Error → NoCause ending.r.cause
  opened-failed e = found_none opened.r opened.r.request.policy ending.r.cause e came

-- ---- the request in hand is that of the last block

abbrev pub checking-is_open : (core : CoreId) (p : PassView) (bs : List Block) (o : OptimistSays) → Standing core p bs (Checking o) →
    OpenBlock p bs (begun_as o.r)
checking-is_open core p bs o s = record {
  done = s.stands.done;
  last = s.stands.last;
  before = s.stands.before;
  blocks = s.stands.blocks;
  all_entries = s.stands.all_entries ∙ ap (λ (x : List Entry). s.stands.before ++ x) s.stands.unreleased.1;
  each = s.each;
  made = s.stands.made;
  begun = s.stands.unreleased.0.begun;
  mode = s.stands.unreleased.0.is_optimistic ∙ sym s.stands.unreleased.0.mode;
  declared = s.stands.unreleased.0.declared;
  session = s.given.1;
}

abbrev pub holding-is_open : (core : CoreId) (p : PassView) (bs : List Block) (g : GrantedSays) → Standing core p bs (Holding g) →
    OpenBlock p bs (begun_as g.r)
holding-is_open core p bs g s = record {
  done = s.stands.done;
  last = s.stands.last;
  before = s.stands.before;
  blocks = s.stands.blocks;
  all_entries = s.stands.all_entries ∙ ap (λ (x : List Entry). s.stands.before ++ x) s.stands.unreleased.1;
  each = s.each;
  made = s.stands.made;
  begun = s.stands.unreleased.0.begun;
  mode = s.stands.unreleased.0.mode;
  declared = s.stands.unreleased.0.declared;
  session = s.given.1;
}

-- ---- one more command on its name

module _ (core : CoreId) (p : PassView) (bs ds : List Block) (c : Command) (grows : GrowsBy c bs ds) where
  pub busy-more : (hand now : Hand) → Busy p.shown p.who bs (entries p.mine) hand →
      ((last : Block) (own : List Entry) → Unreleased p.shown p.who last own hand → Unreleased p.shown p.who (with_more last c) own now) →
      Busy p.shown p.who ds (entries p.mine) now
  busy-more hand now b f = record {
    done = b.done;
    last = with_more b.last c;
    before = b.before;
    own = b.own;
    blocks = grows b.done b.last b.blocks;
    all_entries = b.all_entries;
    made = b.made;
    unreleased = f b.last b.own b.unreleased;
  }

  -- what is granted or over stays so
  pub holding-stays : (g : GrantedSays) → is_poison c ≡ false → Standing core p bs (Holding g) → Standing core p ds (Holding g)
  holding-stays g quiet s = record {
    each = s.each;
    stands = busy-more (Holding g) (Holding g) s.stands (λ last own u. (holding-quiet p.shown last c g quiet u.0, u.1));
    given = s.given;
  }

  pub over-stays : Standing core p bs Over → Standing core p ds Over
  over-stays s = record {
    each = s.each;
    stands = busy-more Over Over s.stands (λ last own u. (u.0, u.1, over-more p.shown last c u.0 u.1 u.2, u.3));
    given = s.given;
  }

  pub checking-stays : (o : OptimistSays) → is_poison c ≡ false → is_wait c ≡ false →
      ((declared : List Latch) (held : List HeldLatch) (before : Option (List Latch)) → passed_behind declared held c before ≡ before) →
      Standing core p bs (Checking o) → Standing core p ds (Checking o)
  checking-stays o quiet waits passes s = record {
    each = s.each;
    stands = busy-more (Checking o) (Checking o) s.stands (λ last own u. (checking-quiet p.shown last c o quiet waits passes u.0, u.1));
    given = s.given;
  }

  -- a poisoning
  pub holding-called : (g : GrantedSays) → is_poison c ≡ true → Standing core p bs (Holding g) →
      Standing core p ds (Holding (record g { r = record g.r { cause = first_cause g.r.cause Called } }))
  holding-called g poisons s = record {
    each = s.each;
    stands = busy-more (Holding g) (Holding (record g { r = record g.r { cause = first_cause g.r.cause Called } })) s.stands
        (λ last own u. (holding-poisoned p.shown last c g poisons u.0, u.1));
    given = s.given;
  }

  pub checking-called : (o : OptimistSays) → is_poison c ≡ true → is_wait c ≡ false →
      ((declared : List Latch) (held : List HeldLatch) (before : Option (List Latch)) → passed_behind declared held c before ≡ before) →
      Standing core p bs (Checking o) → Standing core p ds (Checking (record o { r = record o.r { cause = first_cause o.r.cause Called } }))
  checking-called o poisons waits passes s = record {
    each = s.each;
    stands = busy-more (Checking o) (Checking (record o { r = record o.r { cause = first_cause o.r.cause Called } })) s.stands
        (λ last own u. (checking-poisoned p.shown last c o poisons waits passes u.0, u.1));
    given = s.given;
  }

-- the block is open with one more command
abbrev pub open-more : (p : PassView) (bs ds : List Block) (c : Command) (b : Begin) → GrowsBy c bs ds → OpenBlock p bs b → OpenBlock p ds b
open-more p bs ds c b grows o = record {
  done = o.done;
  last = with_more o.last c;
  before = o.before;
  blocks = grows o.done o.last o.blocks;
  all_entries = o.all_entries;
  each = o.each;
  made = o.made;
  begun = o.begun;
  mode = o.mode;
  declared = o.declared;
  session = o.session;
}
