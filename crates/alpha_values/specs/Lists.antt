-- Logic and the byte forms by lists of bits and bytes, the lowest first: `laws_of_lists` says that the results are
-- these. A place is Rb mod 8, a size 1, 2, 4 or 8 bytes.
use Rattle.std.specs.Prelude.{ℕ, ◌+◌, ◌-◌, ◌%◌, ◌==◌, min, max, if◌then◌else◌, List, ◌++◌, length, take, drop, map}
use Rattle.std.specs.Prelude.{replicate}
use Rattle.alpha_words.specs.declared.Level.{Level}
use Rattle.alpha_words.specs.Digits.{digits, number}
use Rattle.alpha_table.specs.declared.op.Op.{Op}
use Rattle.alpha_table.specs.declared.op.Op.TheVariants.{And, Bic, Bis, Ornot, Xor, Eqv, Amask, Mskbl, Extbl, Insbl}
use Rattle.alpha_table.specs.declared.op.Op.TheVariants.{Mskwl, Extwl, Inswl, Mskll, Extll, Insll, Zap, Zapnot, Mskql}
use Rattle.alpha_table.specs.declared.op.Op.TheVariants.{Extql, Insql, Mskwh, Inswh, Extwh, Msklh, Inslh, Extlh, Mskqh}
use Rattle.alpha_table.specs.declared.op.Op.TheVariants.{Insqh, Extqh}
use Rattle.alpha_values.specs.Bits.{pairwise, bits_of, bytes_of}
use Rattle.alpha_values.specs.Op.{features, result_of}

-- each bit turned
abbrev pub inverted : List ℕ → List ℕ
inverted bits = map (λ bit. 1 - bit) bits

-- bit by bit: 1 where both are, where one of them is, where exactly one is
unfoldable pub and_of : List ℕ → List ℕ → ℕ
and_of xs ys = number 2 (pairwise min xs ys)

unfoldable pub or_of : List ℕ → List ℕ → ℕ
or_of xs ys = number 2 (pairwise max xs ys)

unfoldable pub xor_of : List ℕ → List ℕ → ℕ
xor_of xs ys = number 2 (pairwise (λ x y. (x + y) % 2) xs ys)

-- a list of sixteen that has these from a place on, and 0 elsewhere
abbrev pub in_sixteen : ℕ → List ℕ → List ℕ
in_sixteen place xs = (replicate place 0 ++ xs) ++ replicate (16 - (place + length xs)) 0

-- as many bytes as the size has, from the place on
unfoldable pub bytes_from : ℕ → ℕ → ℕ → ℕ
bytes_from size a b = number 256 (take size (drop (b % 8) (bytes_of a)))

-- as many low bytes as the size has, of Ra moved up by as many places as are left above Rb's; the bytes that move in
-- are 0
unfoldable pub bytes_above : ℕ → ℕ → ℕ → ℕ
bytes_above size a b = number 256 (take size (replicate ((8 - b % 8) % 8) 0 ++ bytes_of a))

-- as many low bytes of Ra as the size has, placed into sixteen: the low eight and the high eight of these
unfoldable pub low_placed : ℕ → ℕ → ℕ → ℕ
low_placed size a b = number 256 (take 8 (in_sixteen (b % 8) (take size (bytes_of a))))

unfoldable pub high_placed : ℕ → ℕ → ℕ → ℕ
high_placed size a b = number 256 (drop 8 (in_sixteen (b % 8) (take size (bytes_of a))))

-- a byte whose mark is 1 becomes 0
unfoldable pub cleared : List ℕ → ℕ → ℕ
cleared marks a = number 256 (pairwise (λ mark byte. if mark == 1 then 0 else byte) marks (bytes_of a))

-- of sixteen bytes as many as the size has, from the place on, are marked: the low eight marks and the high eight
unfoldable pub low_cleared : ℕ → ℕ → ℕ → ℕ
low_cleared size a b = cleared (take 8 (in_sixteen (b % 8) (replicate size 1))) a

unfoldable pub high_cleared : ℕ → ℕ → ℕ → ℕ
high_cleared size a b = cleared (drop 8 (in_sixteen (b % 8) (replicate size 1))) a

-- the result of an operate instruction, where it is logic or a byte form by lists
unfoldable pub on_lists : Level → Op → ℕ → ℕ → ℕ → ℕ
on_lists level And a b old = and_of (bits_of a) (bits_of b)
on_lists level Bis a b old = or_of (bits_of a) (bits_of b)
on_lists level Xor a b old = xor_of (bits_of a) (bits_of b)
on_lists level Bic a b old = and_of (bits_of a) (inverted (bits_of b))
on_lists level Ornot a b old = or_of (bits_of a) (inverted (bits_of b))
on_lists level Eqv a b old = xor_of (bits_of a) (inverted (bits_of b))
on_lists level Amask a b old = and_of (bits_of b) (inverted (bits_of (features level)))
on_lists level Extbl a b old = bytes_from 1 a b
on_lists level Extwl a b old = bytes_from 2 a b
on_lists level Extll a b old = bytes_from 4 a b
on_lists level Extql a b old = bytes_from 8 a b
on_lists level Extwh a b old = bytes_above 2 a b
on_lists level Extlh a b old = bytes_above 4 a b
on_lists level Extqh a b old = bytes_above 8 a b
on_lists level Insbl a b old = low_placed 1 a b
on_lists level Inswl a b old = low_placed 2 a b
on_lists level Insll a b old = low_placed 4 a b
on_lists level Insql a b old = low_placed 8 a b
on_lists level Inswh a b old = high_placed 2 a b
on_lists level Inslh a b old = high_placed 4 a b
on_lists level Insqh a b old = high_placed 8 a b
on_lists level Mskbl a b old = low_cleared 1 a b
on_lists level Mskwl a b old = low_cleared 2 a b
on_lists level Mskll a b old = low_cleared 4 a b
on_lists level Mskql a b old = low_cleared 8 a b
on_lists level Mskwh a b old = high_cleared 2 a b
on_lists level Msklh a b old = high_cleared 4 a b
on_lists level Mskqh a b old = high_cleared 8 a b
on_lists level Zap a b old = cleared (digits 2 8 b) a
on_lists level Zapnot a b old = cleared (inverted (digits 2 8 b)) a
on_lists level op a b old = result_of level op a b old
