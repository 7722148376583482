-- The keys of names.
use Rattle.std.specs.Prelude.{◌≡◌, ◌+◌, ◌*◌, ◌%◌, ◌^◌, ℕ, List, [], ◌∷◌, length, Bool, true, nat_le, ◌==◌, ◌&&◌}
use Rattle.std.specs.List.{fold, list_all}
use Rattle.alpha_token.specs.Bytes.{goes_on_name}
use Rattle.alpha_table.specs.Names.{name_of}
use Rattle.alpha_quick.specs.declared.rows.KeyedRow.{KeyedRow}

-- the key of a name with a further byte: of nine bytes the last eight are left
abbrev pub with_byte : ℕ → ℕ → ℕ
with_byte key byte = (key * 256 % 2 ^ 64 + byte) % 2 ^ 64

-- a name's key, its last eight bytes as one number
abbrev pub key_of : List ℕ → ℕ
key_of name = fold with_byte 0 name

-- a name and its key
abbrev pub IsKeyed : List ℕ → ℕ → Type 0
IsKeyed name key = (list_all goes_on_name name ≡ true) × (key ≡ key_of name)

-- a name has eight bytes at most, and this key
abbrev pub is_named : List ℕ → ℕ → Bool
is_named name key = key_of name == key && (nat_le (length name) 8 && list_all goes_on_name name)

-- rows, each with its name's key
abbrev pub are_named : List KeyedRow → Bool
are_named [] = true
are_named (r ∷ rs) = is_named (name_of r.row) r.key.0 && are_named rs
