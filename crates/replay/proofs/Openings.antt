-- A session that opens a request: what it has in hand then, whether it checks, waits and is granted, or fails.
use Rattle.std.proofs.Common.{◌≡◌, ℕ, List, [], ◌∷◌, ◌++◌, length, Option, Some, None, refl, sym, ◌∙◌, ap, subst}
use Rattle.latch_model.specs.Histories.{Begin, begin_with, entry_of, shot}
use Rattle.latch_model.specs.declared.history.Cause.TheVariants.{None as no_cause}
use Rattle.latch_model.specs.declared.history.Entry.{Entry}
use Rattle.latch_model.specs.declared.latch.Latch.{Latch}
use Rattle.latch_model.specs.declared.latch.Mode.{Mode}
use Rattle.latch_model.specs.declared.latch.Mode.TheVariants.{Optimistic}
use Rattle.latch_model.specs.declared.latch.Policy.{Policy}
use Rattle.script.specs.Follows.{AllMadeBy, Block, declaration_of, passed_in}
use Rattle.signal_board.specs.Rule.{begun_as, entries}
use Rattle.signal_board.specs.Says.{PassSays}
use Rattle.signal_board.proofs.Laws.{new_begun}
use Rattle.waiter.specs.Says.{OpenedSays}
use Rattle.latch_manager.specs.Making.{Began, Made, next_begin}
use Rattle.replay.specs.Blocks.{new_block}
use Rattle.replay.specs.Sessions.{Busy, Checking, EachBegun, Hand, Idle, Standing}
use Rattle.replay.specs.Sessions.{Unreleased}
use Rattle.replay.proofs.Made.{each_begun-more}
use Rattle.replay.proofs.Standings.{each_begun-to, entries-wrote, goes_on-with, made-to}

-- The entries that were there, and what a request of an opening adds: its begin alone.
module _ (made : Made) (old new : PassSays) (mode : Mode) (block : Block) (opened : OpenedSays) (k : Began made old mode (declaration_of block) opened new)
    (bs : List Block) (s : Standing made.core old.p bs Idle) where
  abbrev begun : Begin
  begun = next_begin k.log old.p.who mode (declaration_of block)

  abbrev after : List Entry
  after = k.log ++ entry_of begun ∷ []

  -- the pass
  pub opening_shown : new.p.shown ≡ after
  opening_shown = ap (λ (x : PassSays). x.p.shown) k.adds.pass

  pub opening_who : new.p.who ≡ old.p.who
  opening_who = ap (λ (x : PassSays). x.p.who) k.adds.pass

  pub opening_entries : entries new.p.mine ≡ entries old.p.mine ++ entry_of (begun_as opened.r) ∷ []
  opening_entries =
      ap (λ (x : PassSays). entries x.p.mine) k.adds.pass
      ∙ (entries-wrote old.p (length k.log) (entry_of begun)
      ∙ ap (λ (x : OpenedSays). entries old.p.mine ++ entry_of (begun_as x.r) ∷ []) (sym k.opened_is))

  -- the request
  pub opening_begun : begin_with new.p.shown opened.r.id ≡ Some (begun_as opened.r)
  opening_begun =
      subst (λ (x : OpenedSays). begin_with new.p.shown x.r.id ≡ Some (begun_as x.r)) (sym k.opened_is)
      (subst
      (λ (h : List Entry). begin_with h begun.id
      ≡ Some begun)
      (sym opening_shown) (new_begun k.log made.sizes begun k.adds.legal))

  pub opening_shot : opened.r.shot ≡ shot new.p.shown opened.r.id
  opening_shot =
      subst (λ (x : OpenedSays). x.r.shot ≡ shot new.p.shown x.r.id) (sym k.opened_is) (ap (λ (h : List Entry). shot h begun.id) (sym opening_shown))

  pub opening_mode : opened.r.mode ≡ mode
  opening_mode = ap (λ (x : OpenedSays). x.r.mode) k.opened_is

  pub opening_declared : opened.r.request ≡ declaration_of block
  opening_declared = ap (λ (x : OpenedSays). x.r.request) k.opened_is

  pub opening_cause : opened.r.cause ≡ no_cause
  opening_cause = ap (λ (x : OpenedSays). x.r.cause) k.opened_is

  -- what stood in front
  pub opening_made : AllMadeBy (passed_in new.p.shown) bs (entries old.p.mine)
  opening_made =
      subst (λ (h : List Entry). AllMadeBy (passed_in h) bs (entries old.p.mine)) (sym opening_shown)
      (made-to old.p.shown after bs (entries old.p.mine)
      (goes_on-with old.p.shown k.log (entry_of begun) k.adds.goes_on) s.each s.stands)

  pub opening_each : EachBegun new.p.shown (entries new.p.mine)
  opening_each =
      subst (λ (es : List Entry). EachBegun new.p.shown es) (sym opening_entries)
      (each_begun-more new.p.shown (entries old.p.mine) (entry_of (begun_as opened.r) ∷ [])
      (subst (λ (h : List Entry). EachBegun h (entries old.p.mine)) (sym opening_shown)
      (each_begun-to old.p.shown after (entries old.p.mine)
      (goes_on-with old.p.shown k.log (entry_of begun) k.adds.goes_on) s.each))
      ((begun_as opened.r, opening_begun), tt))

  -- with anything in hand that is of the new block
  pub opening_busy : (hand : Hand) → Unreleased new.p.shown new.p.who block (entry_of (begun_as opened.r) ∷ []) hand →
      Busy new.p.shown new.p.who (bs ++ block ∷ []) (entries new.p.mine) hand
  opening_busy hand u = record {
    done = bs;
    last = block;
    before = entries old.p.mine;
    own = entry_of (begun_as opened.r) ∷ [];
    blocks = refl;
    all_entries = opening_entries;
    made = opening_made;
    unreleased = u;
  }

-- An optimistic request is opened.
pub opens_checking : (made : Made) (old new : PassSays) (line : ℕ) (policy : Policy) (turns : Option ℕ) (latches : List Latch) (opened : OpenedSays) →
    Began made old Optimistic (declaration_of (new_block line Optimistic policy turns latches)) opened new → (bs : List Block)
    → Standing made.core old.p bs Idle →
    Standing made.core new.p (bs ++ new_block line Optimistic policy turns latches ∷ [])
    (Checking (record { core = opened.core; r = opened.r; met = None; passed = None }))
opens_checking made old new line policy turns latches opened k bs s =
    let block : Block = new_block line Optimistic policy turns latches in
    record {
      each = opening_each made old new Optimistic block opened k bs s;
      stands = opening_busy made old new Optimistic block opened k bs s (Checking (record { core = opened.core; r = opened.r; met = None; passed = None })) (
        record {
          begun = opening_begun made old new Optimistic block opened k bs s;
          mode = refl;
          is_optimistic = opening_mode made old new Optimistic block opened k bs s;
          declared = opening_declared made old new Optimistic block opened k bs s;
          waits = refl;
          cause = opening_cause made old new Optimistic block opened k bs s;
          shot_is = opening_shot made old new Optimistic block opened k bs s;
          passed = refl;
        },
        refl,
      );
      given = (
        ap (λ (x : OpenedSays). x.core) k.opened_is,
        ap (λ (x : OpenedSays). x.r.who) k.opened_is ∙ sym (opening_who made old new Optimistic block opened k bs s),
      );
    }
