use Rattle.std.proofs.Common.{◌≡◌, get_or, Some, None, arith}
use Rattle.alpha_token.specs.Tokens.{token_at}
use Rattle.alpha_token.proofs.TokenSuffixes.{tokens-empty, tokens-comment, tokens-bad, tokens-next, joins-next}
use Rattle.alpha_token.proofs.token.next_behind_blanks.Goals as goal

pub returns-in_default-clause-reads : goal.returns-in_default-clause-reads
returns-in_default-clause-reads c = tokens-empty c.args.line.now (omega arith)

pub returns-then-first-eq35-clause-reads : goal.returns-then-first-eq35-clause-reads
returns-then-first-eq35-clause-reads c = tokens-comment c.args.line.now (omega arith) c.if-first-eq35.true

pub returns-in-None-clause-reads : goal.returns-in-None-clause-reads
returns-in-None-clause-reads c =
    let found : token_at (get_or c.args.line.now 0 0) c.bytes_from-rest.result.now ≡ None =
    cc c.in-None.ensures.value in
    tokens-bad c.args.line.now c.bytes_from-rest.result.now
    (omega arith) c.requires c.if-first-eq35.false c.bytes_from-rest.ensures.value found

pub returns-in-Some-clause-reads : goal.returns-in-Some-clause-reads
returns-in-Some-clause-reads c =
    let found : token_at (get_or c.args.line.now 0 0) c.bytes_from-rest.result.now
    ≡ Some (c.in-Some.kind, c.in-Some.more) =
    cc c.in-Some.ensures.value in
    tokens-next c.args.line.now c.bytes_from-rest.result.now c.first_bytes.result.now c.bytes_from.result.now
    c.in-Some.kind
    c.in-Some.more (omega arith) c.requires c.if-first-eq35.false c.bytes_from-rest.ensures.value found
    c.first_bytes.ensures
    c.bytes_from.ensures.value

pub returns-in-Some-clause-joins : goal.returns-in-Some-clause-joins
returns-in-Some-clause-joins c =
    joins-next c.args.line.now c.bytes_from-rest.result.now c.first_bytes.result.now c.bytes_from.result.now
    c.in-Some.more
    (omega arith) c.bytes_from-rest.ensures.value c.first_bytes.ensures c.bytes_from.ensures.value
