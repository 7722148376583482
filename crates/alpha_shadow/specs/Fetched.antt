-- What a clause sees of code that is looked at.
use Rattle.std.specs.Prelude.{◌≡◌, ◌<◌, ◌^◌, ℕ, List, length, map, Some}
use Rattle.alpha_table.specs.declared.form.Form.{Form}
use Rattle.alpha_table.specs.Decoded.{decoded}
use Rattle.alpha_table.specs.Encoded.{encoded}

pub record Fetched : Type 0 where
  pub code : List ℕ
  pub fetches : ℕ

-- each instruction is that of its word
pub record HaveWords (insns : List Form) : Type 0 where
  pub known : map decoded (map encoded insns) ≡ map Some insns
  pub few : length insns < 2 ^ 32
