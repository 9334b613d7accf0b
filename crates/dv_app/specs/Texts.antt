-- The text of what is asked for at a date, and why there is none.
use Rattle.std.specs.Prelude.{◌≡◌, ℕ, List, Result, Ok, Err}
use Rattle.dv_text.specs.Keys.{DigestFunction, hashes_of}
use Rattle.dv_text.specs.declared.rows.Window.{Window}
use Rattle.dv_vault.specs.Vaults.{HasSealed, RawVault}
use Rattle.dv_print.specs.declared.query_rules.QueryRule.{QueryRule}
use Rattle.dv_mart.specs.MartTexts.{mart_text}
use Rattle.dv_mart.specs.declared.whats.What.{What}
use Rattle.dv_given.specs.Endings.{QueryEnds}
use Rattle.dv_given.specs.declared.endings.Ending.{Ending}

-- what of a vault's sealed windows is asked for at a date: its text, or the rule that it breaks, by every digest function of which the
-- vault is
abbrev pub IsTextFor : RawVault → What → ℕ → Result (List ℕ) QueryRule → Type 0
IsTextFor vault what date text =
    (function : DigestFunction) (sealed : List Window) → HasSealed (hashes_of function) sealed vault
    → mart_text vault.mapping (hashes_of function) sealed vault.tables what date ≡ text

-- its text
abbrev pub IsTextOf : RawVault → What → ℕ → List ℕ → Type 0
IsTextOf vault what date text = IsTextFor vault what date (Ok text)

-- why there is none
abbrev pub TextEnds : RawVault → What → ℕ → Ending → Type 0
TextEnds vault what date ending = QueryEnds (λ rule. IsTextFor vault what date (Err rule)) ending
