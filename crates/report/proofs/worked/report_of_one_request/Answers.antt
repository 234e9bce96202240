use Rattle.std.proofs.Common.{◌≡◌, ◌∷◌, [], decimal, arith}
use Rattle.std.proofs.lemmas.Fmt.{decimal_digit}
use Rattle.hex.proofs.OnLiterals.{hex_on_literals}
use Rattle.report.proofs.worked.report_of_one_request.Goals as goal

zero_text : decimal 0 ≡ 48 ∷ []
zero_text = decimal_digit 0 (omega arith)

one_text : decimal 1 ≡ 49 ∷ []
one_text = decimal_digit 1 (omega arith)

two_text : decimal 2 ≡ 50 ∷ []
two_text = decimal_digit 2 (omega arith)

pub returns-clause-text : goal.returns-clause-text
unfolding hex_on_literals
returns-clause-text c = simp (zero_text, one_text, two_text)

pub returns-clause-json : goal.returns-clause-json
unfolding hex_on_literals
returns-clause-json c = simp (zero_text, one_text, two_text)
