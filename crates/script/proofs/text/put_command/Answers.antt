use Rattle.std.proofs.Common.{[], ◌∷◌, ◌++◌, codes, decimal, map, sym, ap, ◌∙◌}
use Rattle.std.proofs.lemmas.Result.{on_ok_weaker}
use Rattle.script.specs.Commands.{fields_of, line_of, mode_text, policy_text, turns_fields}
use Rattle.script.specs.Texts.{latch_text}
use Rattle.script.specs.declared.command.Command.{Command}
use Rattle.script.proofs.Spelled.{check_line, begin_line}
use Rattle.script.proofs.text.put_command.Goals as goal

pub returns-in_ok-put_turns-in-Begin : goal.returns-in_ok-put_turns-in-Begin
returns-in_ok-put_turns-in-Begin c =
    let b = c.in-Begin in
    let out = c.args.out.now.items in
    let line = begin_line out (mode_text b.mode) (decimal b.session ∷ b.name ∷ policy_text b.policy ∷ []) (turns_fields b.turns) (map latch_text b.latches) in
    on_ok_weaker c.put_end.result (λ e. e ∙ rw (c.in_ok-put_turns-in-Begin.ensures, c.in_ok-put_opening-in-Begin.ensures) line
    ∙ ap (λ (x : Command). out ++ line_of (fields_of x)) (sym b.is)) c.put_end.ensures

pub returns-in_ok-put_field-in-Check : goal.returns-in_ok-put_field-in-Check
returns-in_ok-put_field-in-Check c =
    let b = c.in-Check in
    let out = c.args.out.now.items in
    let line = check_line out (codes "check") b.name (map latch_text b.latches) in
    on_ok_weaker c.put_end-in-Check.result (λ e. e
    ∙ rw (c.in_ok-put_field-in-Check.ensures, c.in_ok-extend_from_slice-in-Check.ensures.items, c.bytes.ensures.bytes) line
    ∙ ap (λ (x : Command). out ++ line_of (fields_of x)) (sym b.is)) c.put_end-in-Check.ensures
