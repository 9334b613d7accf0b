-- What is read off what a command wrote, whatever the folder and the sinks tell of their contents.
use Rattle.std.specs.Prelude.{◌≡◌, ◌⊎◌, ℕ, List, ◌++◌, Option}
use Rattle.dv_catalog.specs.declared.rules.Rule.{Rule}
use Rattle.dv_print.specs.declared.query_rules.QueryRule.{QueryRule}
use Rattle.dv_outside.specs.Bytes.{after}
use Rattle.dv_given.specs.Given.{absent_line, query_line, read_fault_line}
use Rattle.dv_given.specs.Tried.{refusal_text, window_line}

-- a text ends with a line
abbrev pub HasLast : List ℕ → List ℕ → Type 0
HasLast line text = (lines : List ℕ) × (text ≡ lines ++ line)

-- the last line names a file: it is absent, or it could not be read, of which this is the cause
abbrev pub IsUnreadText : Type 0 → List ℕ → Type 0
IsUnreadText Read text = (file : List ℕ) × (HasLast (absent_line file) text ⊎ (HasLast (read_fault_line file) text × Read))

-- a text with the line of a window that was refused
abbrev pub HasRefusal : List ℕ → Type 0
HasRefusal text =
    (front : List ℕ) × (name : List ℕ) × (rule : Rule) × (behind : List ℕ) × (text ≡ front ++ window_line name (refusal_text rule) ++ behind)

-- the last line says that what was asked for is refused, or a line says so of a window
abbrev pub IsRefusedText : List ℕ → Type 0
IsRefusedText text = ((rule : QueryRule) × HasLast (query_line rule) text) ⊎ HasRefusal text

-- such a text was put at the end of standard error
abbrev pub Wrote : Option (List ℕ) → Option (List ℕ) → (List ℕ → Type 0) → Type 0
Wrote said says IsText = (text : List ℕ) × IsText text × (says ≡ after said text)
