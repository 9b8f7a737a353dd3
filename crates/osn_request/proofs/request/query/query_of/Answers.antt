use Rattle.std.proofs.Common.{◌≡◌, Bool, true, Result, Ok, Err, IfErr}
use Rattle.osn_request.specs.declared.request.RequestError.{RequestError}
use Rattle.osn_request.specs.declared.request.RequestError.TheVariants.{NoMemory}
use Rattle.osn_request.specs.QueryRequest as spec
use Rattle.osn_request.proofs.QueryLemmas.{query_by_code}
use Rattle.osn_request.proofs.request.query.query_of.Goals as goal

always : {A : Type 0} (r : Result A RequestError) (b : Bool) → b ≡ true
    → IfErr r (λ e. e ≡ NoMemory → b ≡ true)
always (Ok x) b is = tt
always (Err e) b is = λ _. is

pub returns-in_err-to_query-clause-memory : goal.returns-in_err-to_query-clause-memory
returns-in_err-to_query-clause-memory g c =
    always c.from_residual-in_err-to_query.result (spec.has_code c.args.op)
    (query_by_code c.args.readers c.args.op _ _ c.in_ok-reader.ensures.query
    c.in_err-to_query.ensures.memory)
