-- Classes of bytes.
use Rattle.std.specs.Prelude.{ℕ, List, [], ◌∷◌, Bool, false, ◌==◌, ◌||◌, ◌&&◌}
use Rattle.std.specs.List.{list_all}
use Rattle.std.specs.Char.{is_ascii_alphabetic, is_ascii_alphanumeric}

-- a space or a tab
abbrev pub is_blank : ℕ → Bool
is_blank b = b == 32 || b == 9

-- a letter or `_`
abbrev pub begins_label : ℕ → Bool
begins_label b = is_ascii_alphabetic b || b == 95

-- a letter, a digit, `_` or `.`
abbrev pub goes_on_label : ℕ → Bool
goes_on_label b = is_ascii_alphanumeric b || (b == 95 || b == 46)

-- a letter or `_`, and then letters, digits, `_` and `.`
abbrev pub is_label : List ℕ → Bool
is_label [] = false
is_label (b ∷ name) = begins_label b && list_all goes_on_label name

-- a letter, `_` or `.`
abbrev pub begins_name : ℕ → Bool
begins_name b = begins_label b || b == 46

-- a letter, a digit, `_`, `.` or `/`
abbrev pub goes_on_name : ℕ → Bool
goes_on_name b = goes_on_label b || b == 47
