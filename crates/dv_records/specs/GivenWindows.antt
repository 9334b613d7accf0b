-- A window that is given, beside the windows that are sealed: what is loaded of it, and the first rule that its extracts break.
use Rattle.std.specs.Prelude.{List, Option}
use Rattle.dv_text.specs.declared.rows.Window.{Window}
use Rattle.dv_catalog.specs.declared.rules.Rule.{Rule}
use Rattle.dv_catalog.specs.declared.windows.WindowIn.{WindowIn}
use Rattle.dv_catalog.specs.Entries.{Mapping}
use Rattle.dv_catalog.specs.Windows.{window_of, window_rule}

-- the window of the extracts that are given: each is whole, so nothing of it depends on the sealed windows
abbrev pub window_in : Mapping → List Window → WindowIn → Window
window_in mapping sealed given = window_of mapping given

-- the first rule, W7 to W18, that an extract of it breaks
abbrev pub rule_in : Mapping → List Window → WindowIn → Option Rule
rule_in mapping sealed given = window_rule mapping given
