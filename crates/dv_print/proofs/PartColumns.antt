-- The columns of the parts of a hub's keys, one after the other.
use Rattle.dv_print.proofs.Vocabulary.{List, Mapping, None, [], ap, append-nil, append_assoc, arith, codes, decimal, dotted, hub_columns, hub_name, map, map-range_with_len_more, numbered, parts_of, range_with_len, raw_header, refl, slice_get, sym, ℕ, ◌++◌, ◌+◌, ◌∙◌, ◌∷◌, ◌≡◌}

abbrev part_column : ℕ → List ℕ
part_column n = codes "part_" ++ decimal n

pub one_part_more : (n : ℕ) (header pushed : List (List ℕ)) → header ≡ raw_header (map (λ n. codes "part_" ++ decimal n) (range_with_len 1 n)) → pushed ≡ header ++ (codes "part_" ++ decimal (n + 1)) ∷ []
    → pushed ≡ raw_header (map (λ n. codes "part_" ++ decimal n) (range_with_len 1 (n + 1)))
one_part_more n header pushed so_far push =
    push ∙ ap (λ h. h ++ part_column (n + 1) ∷ []) so_far ∙ ap raw_header (sym (map-range_with_len_more part_column 1 n (n + 1) (omega arith)))

-- the columns of the parts of a hub's keys, one more
pub one_numbered_more : (name : List ℕ) (n : ℕ) (start header pushed : List (List ℕ)) → header ≡ start ++ map (numbered name) (range_with_len 1 n) → pushed ≡ header ++ numbered name (n + 1) ∷ []
    → pushed ≡ start ++ map (numbered name) (range_with_len 1 (n + 1))
one_numbered_more name n start header pushed so_far push =
    push ∙ ap (λ h. h ++ numbered name (n + 1) ∷ []) so_far
    ∙ append_assoc start (map (numbered name) (range_with_len 1 n)) (numbered name (n + 1) ∷ [])
    ∙ ap (λ columns. start ++ columns) (sym (map-range_with_len_more (numbered name) 1 n (n + 1) (omega arith)))

-- a number behind two names is behind the second, and with it behind the first
pub behind_both : (feed hub : List ℕ) (ns : List ℕ) → map (numbered (dotted feed hub)) ns ≡ map (dotted feed) (map (numbered hub) ns)
behind_both feed hub [] = refl
behind_both feed hub (n ∷ ns) =
    let first = append_assoc feed (46 ∷ hub) (46 ∷ decimal n) in
    let rest = behind_both feed hub ns in
    λ i. first i ∷ rest i

-- a hub that isn't there has no columns
pub no_columns : (mapping : Mapping) (feed : List ℕ) (hub : ℕ) (header : List (List ℕ)) → slice_get mapping.hubs hub ≡ None → header ≡ header ++ hub_columns mapping feed hub
no_columns mapping feed hub header none =
    sym (ap (λ o. header ++ map (dotted feed) (map (numbered (hub_name o)) (range_with_len 1 (parts_of o)))) none ∙ append-nil header)
