-- The bodies of replies as they are written.
use Rattle.dv_desk.proofs.Vocabulary.{Data, Global, List, String, Text, append_assoc, codes, compact_text, decimal, no_members, number, object, put, quoted, rules, serde_json_on_literals, string, string_bytes, the_lemmas, unsigned, view, ℕ, ◌++◌, ◌≡◌}

-- the name of an answer, and what it tells more
abbrev pub told : List ℕ → List ℕ → Data → Data
told name answer more = object (put name more (put (codes "answer") (string answer) no_members))

-- the data of a text
pub view_text : (text : String Global) → view (Text text) ≡ string (string_bytes text)
view_text text = search (rules, the_lemmas)

-- the name of an answer and a text, and a number of rows
pub written_text : (name text : List ℕ) → compact_text (told (codes "text") name (string text)) ≡ codes "{\"answer\":" ++ quoted name ++ codes ",\"text\":" ++ quoted text ++ codes "}"
unfolding serde_json_on_literals
written_text name text = simp append_assoc

pub written_rows : (rows : ℕ) → compact_text (told (codes "rows") (codes "Loaded") (number (unsigned rows))) ≡ codes "{\"answer\":\"Loaded\",\"rows\":" ++ decimal rows ++ codes "}"
unfolding serde_json_on_literals
written_rows rows = simp append_assoc
