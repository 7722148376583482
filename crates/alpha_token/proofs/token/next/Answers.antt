use Rattle.std.proofs.Common.{◌≡◌, ℕ, List, drop, ◌∙◌, ap, subst}
use Rattle.std.specs.List.{prefix_len}
use Rattle.alpha_token.specs.Bytes.{is_blank}
use Rattle.alpha_token.specs.Tokens.{Reads, Joins}
use Rattle.alpha_token.proofs.TokenSuffixes.{prefix_len-behind, joins-blanks, reads-blanks}
use Rattle.alpha_token.proofs.token.next.Goals as goal

rest_is : (line rest : List ℕ) (n : ℕ) → rest ≡ drop n line → n ≡ prefix_len is_blank line
    → rest ≡ drop (prefix_len is_blank line) line
rest_is line rest n e f = e ∙ ap (λ k. drop k line) f

pub next_behind_blanks-requires : goal.next_behind_blanks-requires
next_behind_blanks-requires c =
    rw (rest_is c.args.line.now c.bytes_from.result.now c.blanks_len.result
    c.bytes_from.ensures.value c.blanks_len.ensures.value)
    (prefix_len-behind is_blank c.args.line.now)

pub returns-clause-reads : goal.returns-clause-reads
returns-clause-reads c =
    reads-blanks c.args.line.now c.next_behind_blanks.result
    (subst (λ s. Reads s c.next_behind_blanks.result) (rest_is c.args.line.now c.bytes_from.result.now
    c.blanks_len.result c.bytes_from.ensures.value c.blanks_len.ensures.value) c.next_behind_blanks.ensures.reads)

pub returns-clause-joins : goal.returns-clause-joins
returns-clause-joins c =
    joins-blanks c.args.line.now c.blanks_len.result c.next_behind_blanks.result
    (subst (λ s. Joins s c.next_behind_blanks.result) c.bytes_from.ensures.value c.next_behind_blanks.ensures.joins)
