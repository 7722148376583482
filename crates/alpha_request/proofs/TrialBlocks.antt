-- How many blocks a trial that words ask for has.
use Rattle.std.proofs.Common.{◌≡◌, ◌<◌, ◌≤◌, ℕ, Bool, true, false, ◌&&◌, if◌then◌else◌, nat_lt, nat_le, List, Option}
use Rattle.std.proofs.Common.{Some, None, codes, refl, arith}
use Rattle.std.specs.Option.{option_and_then, option_map}
use Rattle.std.proofs.lemmas.Bool.{and_parts, leb-true}
use Rattle.clap.specs.Walk.{Text}
use Rattle.clap.specs.Words.{first_of}
use Rattle.alpha_request.specs.Command.{trial}
use Rattle.alpha_request.specs.Options.{number_of}
use Rattle.alpha_request.specs.Commands.Trial.{blocks_in, blocks_of, within_blocks}
use Rattle.alpha_request.specs.Asked.{asked}
use Rattle.alpha_request.proofs.AskedBy.{asked-AsksBy}

abbrev IsWithin : ℕ → Type 0
IsWithin n = (0 < n) × (n ≤ 20000)

IsWithin-tested : (m n : ℕ) (b : Bool) → (nat_lt 0 m && nat_le m 20000) ≡ b → (if b then Some m else None) ≡ Some n
    → IsWithin n
IsWithin-tested m n true is e =
    let same : m ≡ n = cc in
    let (some, most) = and_parts (nat_lt 0 m) (nat_le m 20000) is in
    (omega (arith, leb-true 1 m some, same), omega (arith, leb-true m 20000 most, same))
IsWithin-tested m n false is e = cc

within_of : (m : Option ℕ) (n : ℕ) → option_and_then within_blocks m ≡ Some n → IsWithin n
within_of None n e = cc
within_of (Some m) n e = IsWithin-tested m n (nat_lt 0 m && nat_le m 20000) refl e

of_text : (text : Option Text) (n : ℕ) → option_and_then blocks_of text ≡ Some n → IsWithin n
of_text None n e = cc
of_text (Some text) n e = within_of (number_of text) n e

trial_in : (o : Option ℕ) (n : ℕ) → option_map trial o ≡ Some (trial n) → o ≡ Some n
trial_in None n e = cc
trial_in (Some m) n e = cc

pub asked_blocks : (words : List Text) (n : ℕ) → asked words ≡ Some (trial n) → (0 < n) × (n ≤ 20000)
asked_blocks words n e =
    let h = asked-AsksBy words (trial n) e in
    of_text (first_of (codes "blocks") h.rows) n (trial_in (blocks_in h.rows) n h.makes)
