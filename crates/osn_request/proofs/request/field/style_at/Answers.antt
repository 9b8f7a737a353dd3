use Rattle.std.proofs.Common.{rules}
use Rattle.osn_request.proofs.request.field.style_at.Goals as goal

pub returns-then-has_style : goal.returns-then-has_style
returns-then-has_style c = search rules
