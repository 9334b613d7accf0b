-- The bytes that are not read of a manifest's files change no outcome.
use Rattle.dv_given.proofs.Vocabulary.{Bool, Err, ExtractIn, FeedTwice, Hashes, List, Manifest, ManifestExtract, Mapping, NamedFile, NoExtracts, None, Ok, Option, Outcome, Reading, Result, Rule, Some, StandsForWhole, State, TooLong, UnknownFeed, Window, WindowIn, [], absent_or, accepted, allowed}
use Rattle.dv_given.proofs.Vocabulary.{ap, append-nil, append_assoc, arith, collides, cond, differs, false, feed_twice, file_at, find, first_absent, first_of, given, if_new, if◌then◌else◌, is_feed, is_past, late, le-ltb, length, length-map, length-take, lt-ltb, ltb-false, ltb-true, map, min}
use Rattle.dv_given.proofs.Vocabulary.{most_extract_bytes, most_window_bytes, nat_lt, no_extracts, no_reading, not, open_other, option_map, option_map_or, option_or, outcome, read_from, read_more, read_on, refl, refusal, repeated_name, subst, sym, take, take_all, too_long_behind, true}
use Rattle.dv_given.proofs.Vocabulary.{unknown_feed, unwrap_or, vault_full, whole_extract, whole_window, window_of, window_rule, with_extract, ℕ, ◌++◌, ◌+◌, ◌<◌, ◌==◌, ◌||◌, ◌∙◌, ◌∷◌, ◌≡◌, ◌≤◌}
use Rattle.dv_records.specs.declared.answers.Outcome.TheVariants as outcomes

-- the feeds' names of extracts
abbrev names_of : List ExtractIn → List (List ℕ)
names_of extracts = map (λ extract. extract.feed) extracts

-- ---- windows that are alike

-- behind so many bytes, extracts of the same feeds, of which the same is too long, or that are the same
record IsAlike (bytes : ℕ) (a b : List ExtractIn) : Type 0 where
  feeds : names_of a ≡ names_of b
  long : too_long_behind bytes a ≡ too_long_behind bytes b
  same : too_long_behind bytes a ≡ None → a ≡ b

abbrev unknown_by : Mapping → List (List ℕ) → Option Rule
unknown_by mapping names = option_map (λ name. UnknownFeed name) (find (λ name. not (is_feed mapping name)) names)

unknown_is : (mapping : Mapping) (extracts : List ExtractIn)
    → option_map (λ (extract : ExtractIn). UnknownFeed extract.feed) (find (λ extract. not (is_feed mapping extract.feed)) extracts) ≡ unknown_by mapping (names_of extracts)
unknown_is mapping [] = refl
unknown_is mapping (extract ∷ extracts) = by (not (is_feed mapping extract.feed)) (unknown_is mapping extracts)
  where
    by : (b : Bool) → option_map (λ (extract : ExtractIn). UnknownFeed extract.feed) (find (λ extract. not (is_feed mapping extract.feed)) extracts) ≡ unknown_by mapping (names_of extracts)
        → option_map (λ (extract : ExtractIn). UnknownFeed extract.feed) (cond b (Some extract) (find (λ extract. not (is_feed mapping extract.feed)) extracts))
        ≡ option_map (λ name. UnknownFeed name) (cond b (Some extract.feed) (find (λ name. not (is_feed mapping name)) (names_of extracts)))
    by true rest = refl
    by false rest = rest

-- a refusal behind others is one
abbrev HasRule : Option Rule → Type 0
HasRule o = (rule : Rule) × (o ≡ Some rule)

or_some : (o p : Option Rule) → HasRule p → HasRule (option_or o p)
or_some None p has = has
or_some (Some rule) p has = (rule, refl)

module _ (mapping : Mapping) (hashes : Hashes) (state : State) (load : ℕ) (a b : List ExtractIn) (alike : IsAlike 0 a b) where
  abbrev window : List ExtractIn → WindowIn
  window extracts = record { load = load; extracts = extracts }

  -- the rules behind that of the bytes
  abbrev later : List ExtractIn → Option Rule
  later extracts = first_of (
      window_rule mapping (window extracts) ∷ differs state (window_of mapping (window extracts))
      ∷ if_new state (window_of mapping (window extracts)) (collides mapping hashes state (window_of mapping (window extracts)))
      ∷ if_new state (window_of mapping (window extracts)) (vault_full mapping hashes state (window_of mapping (window extracts))) ∷ [])

  none_same : no_extracts (window a) ≡ no_extracts (window b)
  none_same = ap (λ n. if n == 0 then Some NoExtracts else None) (sym (length-map a (λ extract. extract.feed)) ∙ ap length alike.feeds ∙ length-map b (λ extract. extract.feed))

  unknown_same : unknown_feed mapping (window a) ≡ unknown_feed mapping (window b)
  unknown_same = unknown_is mapping a ∙ ap (unknown_by mapping) alike.feeds ∙ sym (unknown_is mapping b)

  twice_same : feed_twice (window a) ≡ feed_twice (window b)
  twice_same = ap (λ names. option_map (λ name. FeedTwice name) (repeated_name [] names)) alike.feeds

  open_same : (begun : Option Window) → open_other begun (window a) ≡ open_other begun (window b)
  open_same None = refl
  open_same (Some other) = refl

  abbrev refused_by : Option Rule → Option Rule → Option Rule → Option Rule → Option Rule → Option Rule → Option Rule
  refused_by none unknown twice other long rest =
      option_or none (option_or unknown (option_or twice (option_or (late state (window a)) (option_or other (option_or long rest)))))

  abbrev refused_with : List ExtractIn → Option Rule → Option Rule
  refused_with extracts long =
      refused_by (no_extracts (window extracts)) (unknown_feed mapping (window extracts)) (feed_twice (window extracts)) (open_other state.begun (window extracts)) long (later extracts)

  refusal_same : (long : Option Rule) → too_long_behind 0 a ≡ long → refusal mapping hashes state (window a) ≡ refusal mapping hashes state (window b)
  refusal_same None e = ap (λ extracts. refusal mapping hashes state (window extracts)) (alike.same e)
  refusal_same (Some rule) e =
      ap (refused_with a) e
      ∙ (λ i. refused_by (none_same i) (unknown_same i) (twice_same i) (open_same state.begun i) (Some rule) (later b))
      ∙ ap (refused_with b) (sym (sym alike.long ∙ e))

  abbrev outcome_by : Option Rule → Outcome
  outcome_by refused = option_map_or (λ rule. outcomes.Refused rule) refused (accepted state load)

  outcome_same : outcome mapping hashes state (window a) ≡ outcome mapping hashes state (window b)
  outcome_same = ap outcome_by (refusal_same (too_long_behind 0 a) refl)

  -- where the window is to be loaded, nothing is too long, and both are the same
  loaded_same : outcome mapping hashes state (window b) ≡ outcomes.Load → a ≡ b
  loaded_same load_is = by (too_long_behind 0 b) refl
    where
      by : (long : Option Rule) → too_long_behind 0 b ≡ long → a ≡ b
      by None e = alike.same (alike.long ∙ e)
      by (Some rule) e =
          let refused : HasRule (refusal mapping hashes state (window b)) = subst (λ long. HasRule (refused_with b long)) (sym e)
          (or_some (no_extracts (window b)) _ (or_some (unknown_feed mapping (window b)) _ (or_some (feed_twice (window b)) _ (or_some (late state (window a)) _ (or_some (open_other state.begun (window b)) _ (rule, refl)))))) in
          let no : outcomes.Refused refused.0 ≡ outcomes.Load = sym (ap outcome_by refused.1) ∙ load_is in
          cc

-- ---- extracts as they are read

-- a length past what is allowed is past one of the limits
past_limits : (bytes left count : ℕ) → bytes + left ≡ most_window_bytes → allowed left < count → (nat_lt most_extract_bytes count || nat_lt most_window_bytes (bytes + count)) ≡ true
past_limits bytes left count whole lt = by (nat_lt most_extract_bytes count) refl
  where
    by : (b : Bool) → nat_lt most_extract_bytes count ≡ b → (nat_lt most_extract_bytes count || nat_lt most_window_bytes (bytes + count)) ≡ true
    by true e = ap (λ b. b || nat_lt most_window_bytes (bytes + count)) e
    by false e =
        ap (λ b. b || nat_lt most_window_bytes (bytes + count)) e
        ∙ lt-ltb most_window_bytes (bytes + count) (omega (arith, whole, lt, ltb-false most_extract_bytes count e))

-- and one within it is within both
within_limits : (bytes left count : ℕ) → bytes + left ≡ most_window_bytes → count ≤ allowed left → (nat_lt most_extract_bytes count || nat_lt most_window_bytes (bytes + count)) ≡ false
within_limits bytes left count whole le =
    ap (λ b. b || nat_lt most_window_bytes (bytes + count)) (le-ltb most_extract_bytes count (omega (arith, le)))
    ∙ le-ltb most_window_bytes (bytes + count) (omega (arith, whole, le))

module _ (bytes : ℕ) (extract : ExtractIn) (rest : List ExtractIn) where
  abbrev past : Bool
  past = is_past bytes (length extract.bytes)

  too_long_by : (b : Bool) → past ≡ b → too_long_behind bytes (extract ∷ rest) ≡ cond b (Some (TooLong extract.feed)) (too_long_behind (bytes + length extract.bytes) rest)
  too_long_by b e = ap (λ b. cond b (Some (TooLong extract.feed)) (too_long_behind (bytes + length extract.bytes) rest)) e

module _ (files : List NamedFile) where
  abbrev unread : ManifestExtract → ExtractIn
  unread extract = record { feed = extract.feed; bytes = [] }

  -- behind an extract that is too long none is read
  over_from : (extracts : List ManifestExtract) (r : Reading) → r.is_over ≡ true → read_from files r extracts ≡ Ok (r.extracts ++ map unread extracts)
  over_from [] r over = ap Ok (sym (append-nil r.extracts))
  over_from (extract ∷ extracts) r over =
      ap (λ b. read_on (read_more extract (if b then Some [] else given (allowed r.left + 1) files extract.file) r) (λ q. read_from files q extracts)) over
      ∙ over_from extracts (with_extract extract.feed [] r) (ap (λ b. b || nat_lt (allowed r.left) 0) over)
      ∙ ap Ok (append_assoc r.extracts (unread extract ∷ []) (map unread extracts))

  unread_names : (extracts : List ManifestExtract) → names_of (map unread extracts) ≡ names_of (map (whole_extract files) extracts)
  unread_names [] = refl
  unread_names (extract ∷ extracts) = ap (λ l. extract.feed ∷ l) (unread_names extracts)

  -- the extracts behind those that were read, and how they are like those of whole files
  record Behind (r : Reading) (bytes : ℕ) (extracts : List ManifestExtract) (read : List ExtractIn) : Type 0 where
    none_absent : first_absent files bytes extracts ≡ None
    more : List ExtractIn
    read_is : read ≡ r.extracts ++ more
    alike : IsAlike bytes more (map (whole_extract files) extracts)

  -- what the reading of extracts comes to
  abbrev ReadsAs : Reading → ℕ → List ManifestExtract → Result (List ExtractIn) (List ℕ) → Type 0
  ReadsAs r bytes extracts (Err file) = first_absent files bytes extracts ≡ Some file
  ReadsAs r bytes extracts (Ok read) = Behind r bytes extracts read

  module _ (x : ManifestExtract) (xs : List ManifestExtract) (r : Reading) (bytes : ℕ) (over : r.is_over ≡ false) (left : bytes + r.left ≡ most_window_bytes)
      (behind : (q : Reading) (n : ℕ) → q.is_over ≡ false → n + q.left ≡ most_window_bytes → ReadsAs q n xs (read_from files q xs)) where
    abbrev going : Option (List ℕ) → Result (List ExtractIn) (List ℕ)
    going file = read_on (read_more x (option_map (take (allowed r.left + 1)) file) r) (λ q. read_from files q xs)

    by_given : read_from files r (x ∷ xs) ≡ going (file_at files x.file)
    by_given = ap (λ b. read_on (read_more x (if b then Some [] else given (allowed r.left + 1) files x.file) r) (λ q. read_from files q xs)) over

    absent_by : (file : Option (List ℕ)) → file_at files x.file ≡ file → first_absent files bytes (x ∷ xs) ≡ absent_or bytes x.file file (λ more. first_absent files more xs)
    absent_by file e = ap (λ f. absent_or bytes x.file f (λ more. first_absent files more xs)) e

    module _ (file : List ℕ) (there : file_at files x.file ≡ Some file) where
      abbrev front : List ℕ
      front = take (allowed r.left + 1) file

      abbrev read_one : ExtractIn
      read_one = record { feed = x.feed; bytes = front }

      abbrev whole_one : ExtractIn
      whole_one = record { feed = x.feed; bytes = file }

      abbrev next : Reading
      next = with_extract x.feed front r

      whole_is : map (whole_extract files) (x ∷ xs) ≡ whole_one ∷ map (whole_extract files) xs
      whole_is = ap (λ f. record { feed = x.feed; bytes = unwrap_or f [] } ∷ map (whole_extract files) xs) there

      absent_past : (b : Bool) → is_past bytes (length file) ≡ b → first_absent files bytes (x ∷ xs) ≡ (if b then None else first_absent files (bytes + length file) xs)
      absent_past b e = absent_by (Some file) there ∙ ap (λ b. if b then None else first_absent files (bytes + length file) xs) e

      front_length : length front ≡ min (allowed r.left + 1) (length file)
      front_length = length-take (allowed r.left + 1) file

      next_over : (b : Bool) → nat_lt (allowed r.left) (length front) ≡ b → next.is_over ≡ b
      next_over b e = ap (λ o. o || nat_lt (allowed r.left) (length front)) over ∙ e

      if_over : nat_lt (allowed r.left) (length front) ≡ true → ReadsAs r bytes (x ∷ xs) (read_from files next xs)
      if_over e =
          let longer : allowed r.left < length front = ltb-true (allowed r.left) (length front) e in
          let past_read = past_limits bytes r.left (length front) left longer in
          let past_whole = past_limits bytes r.left (length file) left (omega (arith, longer, front_length)) in
          let long_read = too_long_by bytes read_one (map unread xs) true past_read in
          subst (ReadsAs r bytes (x ∷ xs)) (sym (over_from xs next (next_over true e))) (record {
            none_absent = absent_past true past_whole;
            more = read_one ∷ map unread xs;
            read_is = append_assoc r.extracts (read_one ∷ []) (map unread xs);
            alike = record {
              feeds = ap (λ l. x.feed ∷ l) (unread_names xs);
              long = long_read ∙ sym (ap (too_long_behind bytes) whole_is ∙ too_long_by bytes whole_one (map (whole_extract files) xs) true past_whole);
              same = λ none. let no : Some (TooLong x.feed) ≡ None = sym long_read ∙ none in cc;
            };
          })

      module _ (within : nat_lt (allowed r.left) (length front) ≡ false) where
        le : length front ≤ allowed r.left
        le = ltb-false (allowed r.left) (length front) within

        whole : front ≡ file
        whole = take_all (allowed r.left + 1) file (omega (arith, le, front_length))

        extend : (rest : Result (List ExtractIn) (List ℕ)) → ReadsAs next (bytes + length front) xs rest → ReadsAs r bytes (x ∷ xs) rest
        extend (Err name) absent =
            absent_past false (sym (ap (λ l. is_past bytes (length l)) whole) ∙ within_limits bytes r.left (length front) left le)
            ∙ sym (ap (λ l. first_absent files (bytes + length l) xs) whole) ∙ absent
        extend (Ok read) rest =
            let limits = within_limits bytes r.left (length front) left le in
            let read_long = too_long_by bytes read_one rest.more false limits in
            let whole_long = too_long_by bytes read_one (map (whole_extract files) xs) false limits in
            let one_is : read_one ≡ whole_one = ap (λ l. record { feed = x.feed; bytes = l }) whole in
            record {
              none_absent = absent_past false (sym (ap (λ l. is_past bytes (length l)) whole) ∙ limits)
                  ∙ sym (ap (λ l. first_absent files (bytes + length l) xs) whole) ∙ rest.none_absent;
              more = read_one ∷ rest.more;
              read_is = rest.read_is ∙ append_assoc r.extracts (read_one ∷ []) rest.more;
              alike = record {
                feeds = ap (λ l. x.feed ∷ l) rest.alike.feeds;
                long = read_long ∙ rest.alike.long ∙ sym whole_long ∙ ap (λ one. too_long_behind bytes (one ∷ map (whole_extract files) xs)) one_is ∙ sym (ap (too_long_behind bytes) whole_is);
                same = λ none. ap (λ l. read_one ∷ l) (rest.alike.same (sym read_long ∙ none)) ∙ ap (λ one. one ∷ map (whole_extract files) xs) one_is ∙ sym whole_is;
              };
            }

      if_there : (b : Bool) → nat_lt (allowed r.left) (length front) ≡ b → ReadsAs r bytes (x ∷ xs) (read_from files next xs)
      if_there true e = if_over e
      if_there false e = extend e (read_from files next xs) (behind next (bytes + length front) (next_over false e) (omega (arith, le e, left)))

    one_more : (file : Option (List ℕ)) → file_at files x.file ≡ file → ReadsAs r bytes (x ∷ xs) (going file)
    one_more None e = absent_by None e
    one_more (Some file) e = if_there file e (nat_lt (allowed r.left) (length (take (allowed r.left + 1) file))) refl

  reads_alike : (extracts : List ManifestExtract) (r : Reading) (bytes : ℕ) → r.is_over ≡ false → bytes + r.left ≡ most_window_bytes → ReadsAs r bytes extracts (read_from files r extracts)
  reads_alike [] r bytes over left = record { none_absent = refl; more = []; read_is = sym (append-nil r.extracts); alike = record { feeds = refl; long = refl; same = λ none. refl } }
  reads_alike (x ∷ xs) r bytes over left =
      subst (ReadsAs r bytes (x ∷ xs)) (sym (by_given x xs r bytes over left (reads_alike xs)))
      (one_more x xs r bytes over left (reads_alike xs) (file_at files x.file) refl)

  -- what was read stands for the whole files
  module _ (manifest : Manifest) (result : Result (List ExtractIn) (List ℕ)) (reads : read_from files no_reading manifest.extracts ≡ result) where
    all_read : ReadsAs no_reading 0 manifest.extracts result
    all_read = subst (ReadsAs no_reading 0 manifest.extracts) reads (reads_alike manifest.extracts no_reading 0 refl refl)

  pub absent_whole : (manifest : Manifest) (file : List ℕ) → read_from files no_reading manifest.extracts ≡ Err file → first_absent files 0 manifest.extracts ≡ Some file
  absent_whole manifest file reads = all_read manifest (Err file) reads

  module _ (manifest : Manifest) (read : List ExtractIn) (reads : read_from files no_reading manifest.extracts ≡ Ok read) where
    behind_all : Behind no_reading 0 manifest.extracts read
    behind_all = all_read manifest (Ok read) reads

    pub none_absent : first_absent files 0 manifest.extracts ≡ None
    none_absent = behind_all.none_absent

    pub stands_for_whole : StandsForWhole (record { load = manifest.load; extracts = read }) (whole_window files manifest)
    stands_for_whole = record {
      outcome_is = λ mapping hashes state. ap (λ extracts. outcome mapping hashes state (record { load = manifest.load; extracts = extracts })) behind_all.read_is
          ∙ outcome_same mapping hashes state manifest.load behind_all.more (map (whole_extract files) manifest.extracts) behind_all.alike;
      same = λ mapping hashes state load. ap (λ extracts. record { load = manifest.load; extracts = extracts })
          (behind_all.read_is ∙ loaded_same mapping hashes state manifest.load behind_all.more (map (whole_extract files) manifest.extracts) behind_all.alike load);
    }
