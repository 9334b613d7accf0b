-- How what is read of a body stands in all that is read.
use Rattle.dv_http.proofs.Vocabulary.{Came, List, None, Option, Some, [], ap, append-nil, append_assoc, in_front, refl, sym, ℕ, ◌++◌, ◌∙◌, ◌≡◌}

pub front_twice : (a b : List ℕ) (left : Option (List ℕ)) → in_front (a ++ b) left ≡ in_front a (in_front b left)
front_twice a b None = refl
front_twice a b (Some left) = ap Some (append_assoc a b left)

-- what came is no longer to come
pub came_same : (old new : List ℕ) (left rest : Option (List ℕ)) → Came old new left rest → in_front new rest ≡ in_front old left
came_same old new left rest came = ap (λ l. in_front l rest) came.is ∙ front_twice old came.piece rest ∙ ap (in_front old) (sym came.read)

pub came_twice : (a b c : List ℕ) (left mid rest : Option (List ℕ)) → Came a b left mid → Came b c mid rest → Came a c left rest
came_twice a b c left mid rest first second = record {
  piece = first.piece ++ second.piece;
  is = second.is ∙ ap (λ l. l ++ second.piece) first.is ∙ append_assoc a first.piece second.piece;
  read = first.read ∙ ap (in_front first.piece) second.read ∙ sym (front_twice first.piece second.piece rest);
}
