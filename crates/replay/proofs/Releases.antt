-- The name of the last block is released.
use Rattle.std.proofs.Common.{◌≡◌, false, List, [], ◌∷◌, ◌++◌, Option, refl, sym, ◌∙◌, ap, subst}
use Rattle.latch_model.specs.Histories.{HeldLatch, entry_of}
use Rattle.latch_model.specs.declared.history.Entry.{Entry}
use Rattle.latch_model.specs.declared.history.Fault.TheVariants.{None as no_fault}
use Rattle.latch_model.specs.declared.history.Grant.{Grant}
use Rattle.latch_model.specs.declared.latch.Latch.{Latch}
use Rattle.script.specs.Follows.{AllMadeBy, Block, MadeBy, is_poison, is_wait, passed_behind, passed_grant, passed_in}
use Rattle.script.specs.declared.command.Command.{Command}
use Rattle.signal_board.specs.Rule.{begun_as}
use Rattle.signal_board.specs.Says.{PassSays}
use Rattle.signal_board.specs.Views.{PassView}
use Rattle.waiter.specs.Says.{CoreId, EndingSays, GrantedSays, OptimistSays}
use Rattle.latch_manager.specs.Making.{Finished, Made}
use Rattle.replay.specs.Blocks.{GrowsBy}
use Rattle.replay.specs.Sessions.{Checking, Holding, Idle, IsChecking, Over, Standing, end_of}
use Rattle.replay.proofs.Endings.{ends-idle, goes_on}
use Rattle.replay.proofs.Hands.{checking-ends, checking-grown, holding-ends, over-ends}
use Rattle.replay.proofs.Made.{made_more}
use Rattle.replay.proofs.Turns.{checking-is_open, checking-stays, holding-is_open, holding-stays, over-stays}

-- a granted request ends
pub releases-holding : (made : Made) (old new : PassSays) (bs ds : List Block) (c : Command) → GrowsBy c bs ds → is_poison c ≡ false → (g : GrantedSays) →
    Standing made.core old.p bs (Holding g) → Finished made old (record { core = g.core; r = g.r; grant = g.grant; fault = no_fault }) new →
    Standing made.core new.p ds Idle
releases-holding made old new bs ds c grows quiet g s f =
    let t : Standing made.core old.p ds (Holding g) = holding-stays made.core old.p bs ds c grows g quiet s in
    ends-idle made old new ds (begun_as g.r) (holding-is_open made.core old.p ds g t)
    (record { core = g.core; r = g.r; grant = g.grant; fault = no_fault }) f refl
    (holding-ends old.p.shown t.stands.last g (passed_in new.p.shown g.r.id t.stands.last) t.stands.unreleased.0)

-- an optimistic one ends by what its checks passed
pub releases-checking : (made : Made) (old new : PassSays) (bs ds : List Block) (c : Command) → GrowsBy c bs ds → is_poison c ≡ false → is_wait c ≡ false →
    ((declared : List Latch) (held : List HeldLatch) (before : Option (List Latch)) → passed_behind declared held c before ≡ before) → (o : OptimistSays) →
    Standing made.core old.p bs (Checking o) → (grant : Grant) → grant ≡ passed_grant o.passed →
    Finished made old (record { core = o.core; r = o.r; grant = grant; fault = no_fault }) new →
    Standing made.core new.p ds Idle
releases-checking made old new bs ds c grows quiet waits passes o s grant is f =
    let t : Standing made.core old.p ds (Checking o) = checking-stays made.core old.p bs ds c grows o quiet waits passes s in
    let ending : EndingSays = record { core = o.core; r = o.r; grant = grant; fault = no_fault } in
    let on = goes_on made old new ds (begun_as o.r) (checking-is_open made.core old.p ds o t) ending f refl in
    let there : IsChecking new.p.shown t.stands.last o =
    subst (λ (h : List Entry). IsChecking h t.stands.last o) on.1 (checking-grown old.p.shown on.0 t.stands.last o t.stands.unreleased.0) in
    ends-idle made old new ds (begun_as o.r) (checking-is_open made.core old.p ds o t) ending f refl
    (subst
    (λ (x : Grant). MadeBy t.stands.last (passed_in new.p.shown o.r.id t.stands.last) (begun_as o.r)
    (record { id = o.r.id; grant = x; cause = o.r.cause; fault = no_fault }))
    (sym is) (checking-ends new.p.shown t.stands.last o there))

-- one that is over has ended
pub releases-over : (core : CoreId) (p : PassView) (bs ds : List Block) (c : Command) → GrowsBy c bs ds → Standing core p bs Over → Standing core p ds Idle
releases-over core p bs ds c grows s =
    let t : Standing core p ds Over = over-stays core p bs ds c grows s in
    let u = t.stands.unreleased in
    record {
      each = t.each;
      stands =
          subst (λ (es : List Entry). AllMadeBy (passed_in p.shown) ds es) (sym (t.stands.all_entries ∙ ap (λ (x : List Entry). t.stands.before ++ x) u.3))
          (subst (λ (xs : List Block). AllMadeBy (passed_in p.shown) xs (t.stands.before ++ (entry_of u.0 ∷ end_of p.who u.1 ∷ []))) (sym t.stands.blocks)
          (made_more (passed_in p.shown) t.stands.done t.stands.before t.stands.last u.0 u.1 p.who t.stands.made
          (over-ends p.shown t.stands.last u.0 u.1 (passed_in p.shown u.0.id t.stands.last) u.2)));
      given = t.given;
    }
