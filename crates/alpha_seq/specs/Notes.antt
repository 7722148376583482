-- The lines of a run. Addresses and registers are 16 hexadecimal digits, other numbers are decimal.
use Rattle.std.specs.Prelude.{ℕ, ◌+◌, List, [], ◌∷◌, ◌++◌, codes, decimal}
use Rattle.std.specs.List.{flat_map}
use Rattle.alpha_words.specs.Regs.{reg}
use Rattle.alpha_io.specs.Line.{hex_digits}
use Rattle.alpha_seq.specs.declared.end.End.{End}
use Rattle.alpha_seq.specs.declared.end.End.TheVariants.{Exit, Signal, Fetch, Access, Align, Overflow}

abbrev pub line_feed : List ℕ
line_feed = 10 ∷ []

-- `overflow A`
unfoldable pub overflow_line : ℕ → List ℕ
overflow_line at = codes "overflow " ++ hex_digits at ++ line_feed

-- four registers from one on, with a space between
unfoldable pub register_line : List ℕ → ℕ → List ℕ
register_line regs r =
    hex_digits (reg regs r) ++ codes " " ++ hex_digits (reg regs (r + 1)) ++ codes " " ++ hex_digits (reg regs (r + 2))
    ++ codes " " ++ hex_digits (reg regs (r + 3)) ++ line_feed

-- all registers, in eight lines
unfoldable pub register_lines : List ℕ → List ℕ
register_lines regs = flat_map (register_line regs) (0 ∷ 4 ∷ 8 ∷ 12 ∷ 16 ∷ 20 ∷ 24 ∷ 28 ∷ [])

-- eight registers in two lines, and sixteen in four
abbrev pub eight_registers : List ℕ → ℕ → List ℕ
eight_registers regs r = register_line regs r ++ register_line regs (r + 4)

abbrev pub sixteen_registers : List ℕ → ℕ → List ℕ
sixteen_registers regs r = eight_registers regs r ++ eight_registers regs (r + 8)

-- `barrier A` with the PC after it
unfoldable pub barrier_line : ℕ → List ℕ
barrier_line pc = codes "barrier " ++ hex_digits pc ++ line_feed

-- that line, and the registers
abbrev pub barrier_lines : ℕ → List ℕ → List ℕ
barrier_lines pc regs = barrier_line pc ++ register_lines regs

-- `exit V`, `signal C at A`, `fetch A`, `access A address B`, `align A address B`, `stop at A`
unfoldable pub end_line : End → List ℕ
end_line (Exit v) = codes "exit " ++ decimal v ++ line_feed
end_line (Signal code pc) = codes "signal " ++ decimal code ++ codes " at " ++ hex_digits pc ++ line_feed
end_line (Fetch pc) = codes "fetch " ++ hex_digits pc ++ line_feed
end_line (Access pc addr) = codes "access " ++ hex_digits pc ++ codes " address " ++ hex_digits addr ++ line_feed
end_line (Align pc addr) = codes "align " ++ hex_digits pc ++ codes " address " ++ hex_digits addr ++ line_feed
end_line (Overflow pc) = codes "stop at " ++ hex_digits pc ++ line_feed
