use Rattle.std.proofs.Common.{◌≡◌, ◌<◌, [], ◌∷◌, length, take, Some, slice_get, refl, sym, ◌∙◌, ap, subst, arith}
use Rattle.std.proofs.lemmas.Option.{slice_get_read}
use Rattle.std.proofs.lemmas.List.{length-append}
use Rattle.latch_model.proofs.Members.{take_next}
use Rattle.script.specs.Scripts.{IsScript}
use Rattle.script.specs.Sessions.{EachSession, IsSessionOf, KnowsOwners, kept}
use Rattle.script.proofs.Owners.{session-is, session-more}
use Rattle.script.proofs.command.Script.sessions.Goals as goal

pub loop-command-preserved : goal.loop-command-preserved
loop-command-preserved c =
    let cs = c.commands-commands.result.now in
    let l = c.loop-command in
    let ss = l.sessions.items in
    let d = c.command-item.result in
    let more = c.loop-command-test.true in
    let inside : l.command-index < length cs = omega arith in
    let at : slice_get cs l.command-index ≡ Some d = slice_get_read cs _ l.command-index d refl inside c.command-item.is in
    let script : IsScript cs = subst IsScript (sym c.commands-commands.ensures.list) c.commands-commands.ensures.rules in
    let is = subst (IsSessionOf cs d) (sym c.in_ok-session_of.ensures.session) (session-is (kept l.live) cs script l.command-index d at l.invariant.owners) in
    let size = length-append ss (c.in_ok-session_of.field-0 ∷ []) in
    let before = l.invariant.size in
    record {
      size = ap length c.in_ok-push.ensures.items ∙ omega (arith, size, before);
      each = subst (EachSession cs) (sym c.in_ok-push.ensures.items)
          (session-more cs ss d c.in_ok-session_of.field-0 (ap (slice_get cs) before ∙ at) is l.invariant.each);
      owners = subst (KnowsOwners (kept c.session_of.new.live)) (sym (take_next cs l.command-index d at))
          (c.in_ok-session_of.ensures.follows (take l.command-index cs) l.invariant.owners);
    }
