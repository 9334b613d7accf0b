-- A mart that a word names is what the word names.
use Rattle.dv_mart.proofs.Vocabulary.{Bridge, IfSome, IsOffered, List, Mapping, None, Option, Pit, Some, Table, What, if_mart, offered_mart, option_and_then, sym, what_of, ℕ, ◌≡◌}

mart_itself : (named : Option What) (what : What) → option_and_then if_mart named ≡ Some what → named ≡ Some what
mart_itself None what e = let no : None ≡ Some what = e in cc
mart_itself (Some (Table table)) what e = let no : None ≡ Some what = e in cc
mart_itself (Some (Pit hub)) what e = let no : None ≡ Some what = e in cc
mart_itself (Some (Bridge path)) what e = let no : None ≡ Some what = e in cc
mart_itself (Some named) what e = e

pub mart_named : (mapping : Mapping) (word : List ℕ) (what : What) → offered_mart mapping word ≡ Some what → what_of mapping word ≡ Some what
mart_named mapping word what e = mart_itself (what_of mapping word) what e

pub marts_offered : (mapping : Mapping) (word : List ℕ) (named : Option What) → named ≡ offered_mart mapping word → IfSome named (IsOffered mapping)
marts_offered mapping word None e = tt
marts_offered mapping word (Some what) e = record { word = word; offered = mart_named mapping word what (sym e) }
