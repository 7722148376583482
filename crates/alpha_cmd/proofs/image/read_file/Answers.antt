use Rattle.std.proofs.Common.{◌≡◌, ◌∙◌, sym, inr, ⊎_elim}
use Rattle.alpha_io.specs.History.{IsReadInPart}
use Rattle.alpha_io.specs.declared.read.ReadFault.TheVariants.{NoMemory}
use Rattle.alpha_cmd.proofs.image.read_file.Goals as goal

pub returns-in-Err-Shelf-clause-whole : goal.returns-in-Err-Shelf-clause-whole
returns-in-Err-Shelf-clause-whole g c =
    λ file whole. absurd (let e = rw c.in-Err-Shelf.field-0-is at c.in-Err-Shelf.ensures.whole file whole in cc)

pub returns-in-Err-TooLarge-clause-whole : goal.returns-in-Err-TooLarge-clause-whole
returns-in-Err-TooLarge-clause-whole g c =
    λ file whole. absurd (let e = rw c.in-Err-TooLarge.field-0-is at c.in-Err-TooLarge.ensures.whole file whole in cc)

pub returns-in-Err-Shelf-clause-part : goal.returns-in-Err-Shelf-clause-part
returns-in-Err-Shelf-clause-part g c =
    inr (⊎_elim (λ (e : c.in-Err-Shelf.field-0 ≡ NoMemory). absurd (let x = sym c.in-Err-Shelf.field-0-is ∙ e in cc))
    (λ (p : IsReadInPart (g.H.Shelf.replies c.args.shelf.now) (g.H.Shelf.replies c.read_whole.new.shelf)
    c.args.name.now). p) c.in-Err-Shelf.ensures.part)

pub returns-in-Err-TooLarge-clause-part : goal.returns-in-Err-TooLarge-clause-part
returns-in-Err-TooLarge-clause-part g c =
    inr (⊎_elim (λ (e : c.in-Err-TooLarge.field-0 ≡ NoMemory).
    absurd (let x = sym c.in-Err-TooLarge.field-0-is ∙ e in cc))
    (λ (p : IsReadInPart (g.H.Shelf.replies c.args.shelf.now) (g.H.Shelf.replies c.read_whole.new.shelf)
    c.args.name.now). p) c.in-Err-TooLarge.ensures.part)
