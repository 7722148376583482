-- The rules of an image's numbered fields as tests, and the least field that breaks its rule.
use Rattle.std.specs.Prelude.{ℕ, ◌+◌, ◌*◌, ◌-◌, ◌%◌, ◌^◌, Bool, true, ◌==◌, ◌&&◌, ◌||◌, nat_le, nat_lt, List, [], ◌∷◌}
use Rattle.std.specs.Prelude.{length, map, sum_by, Option}
use Rattle.std.specs.List.{list_all}
use Rattle.alpha_image.specs.declared.region.Region.{Region}
use Rattle.alpha_image.specs.declared.segment.Segment.{Segment}
use Rattle.alpha_image.specs.Numbers.{Numbers}
use Rattle.alpha_image.specs.Rules.{size_of_segment}
use Rattle.alpha_image.specs.FirstOf.{unless, first_of}

unfoldable pub is_base : ℕ → Bool
is_base base = base % 8192 == 0 && nat_lt base (2 ^ 30)

abbrev pub rise : List ℕ → Bool
rise (a ∷ b ∷ rest) = nat_lt a b && rise (b ∷ rest)
rise _ = true

unfoldable pub data_bases_fit : List Segment → Bool
data_bases_fit segments = list_all (λ s. is_base s.base) segments && rise (map (λ s. s.base) segments)

unfoldable pub code_words_fit : ℕ → ℕ → Bool
code_words_fit base words = nat_lt 0 words && (nat_le words 262144 && nat_le (base + 4 * words) (2 ^ 30))

unfoldable pub data_bytes_fit : List Segment → Bool
data_bytes_fit segments = list_all (λ s. nat_le s.filled 16777216) segments

unfoldable pub zeroed_bytes_fit : List Segment → Bool
zeroed_bytes_fit segments =
    nat_le (sum_by size_of_segment segments) 16777216
    && list_all (λ s. nat_le (s.base + size_of_segment s) (2 ^ 30)) segments

unfoldable pub stack_bytes_fit : ℕ → Bool
stack_bytes_fit stack = nat_le 16 stack && (nat_le stack 1048576 && stack % 16 == 0)

-- the entry of a code base and so many words
unfoldable pub entry_fits : ℕ → ℕ → ℕ → Bool
entry_fits base words entry = entry % 4 == 0 && (nat_le base entry && nat_lt entry (base + 4 * words))

-- the regions as the tests compare them, each by its base and its size
abbrev pub code_region : Numbers → Region
code_region n = record { base = n.code_base; size = 4 * n.words }

abbrev pub stack_region : Numbers → Region
stack_region n = record { base = 2 ^ 30 - n.stack; size = n.stack }

abbrev pub segment_region : Segment → Region
segment_region s = record { base = s.base; size = size_of_segment s }

abbrev pub compared_regions : Numbers → List Region
compared_regions n = code_region n ∷ stack_region n ∷ map segment_region n.segments

-- one of the two is empty, or ends where the other begins or before it
unfoldable pub are_apart : Region → Region → Bool
are_apart r s = (r.size == 0 || s.size == 0) || (nat_le (r.base + r.size) s.base || nat_le (s.base + s.size) r.base)

abbrev pub all_apart : List Region → Bool
all_apart [] = true
all_apart (r ∷ rest) = list_all (are_apart r) rest && all_apart rest

unfoldable pub regions_fit : Numbers → Bool
regions_fit n = all_apart (compared_regions n)

unfoldable pub level_fits : ℕ → Bool
level_fits level = level == 1 || level == 2

unfoldable pub segments_fit : List Segment → Bool
segments_fit segments = nat_le (length segments) 8

-- the least number of a bad field
unfoldable pub least_bad_field : Numbers → Option ℕ
least_bad_field n =
    first_of
    (unless (is_base n.code_base) 1
    ∷ unless (data_bases_fit n.segments) 2
    ∷ unless (code_words_fit n.code_base n.words) 3
    ∷ unless (data_bytes_fit n.segments) 4
    ∷ unless (zeroed_bytes_fit n.segments) 5
    ∷ unless (stack_bytes_fit n.stack) 6
    ∷ unless (entry_fits n.code_base n.words n.entry) 7
    ∷ unless (regions_fit n) 8
    ∷ unless (level_fits n.level) 9
    ∷ unless (segments_fit n.segments) 10
    ∷ [])
