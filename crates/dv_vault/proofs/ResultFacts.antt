-- What is found by the tasks of a window, and that the tables of hubs and links are the first ones.
use Rattle.dv_vault.proofs.Vocabulary.{All, All-append, All-contains, All-nil, All-push, AreResults, Batch, Contains, Contains-append_left, Contains-append_right, Contains-cons_here, Contains-cons_there, Contains-get_or, Hashes, HubName, IfSome, IsBatch, IsResultOf, Keys, List, Mapping, Some}
use Rattle.dv_vault.proofs.Vocabulary.{TableBatch, TableRows, Task, TaskResult, Window, [], ap, arith, batches_in, drop, feed_tables, flat_map, get_or, got_from, length, length-append, length-map-range_with_len, map, range_with_len, slice_get, slice_get-get_or, subst, sym, tables, take}
use Rattle.dv_vault.proofs.Vocabulary.{take-append-drop, tasks, ℕ, ◌++◌, ◌+◌, ◌<◌, ◌∙◌, ◌∷◌, ◌≡◌, ◌≤◌}
use Rattle.dv_catalog.specs.declared.tables.TableId.TheVariants as ids
use Rattle.dv_vault.specs.declared.results.TaskResult.TheVariants as gives

-- the tables of hubs and links are the first ones
pub parents_first : (mapping : Mapping) → length mapping.hubs + length mapping.links ≤ length (tables mapping)
parents_first mapping =
    let hubs = length-map-range_with_len ids.Hub 0 (length mapping.hubs) in
    let links = length-map-range_with_len ids.Link 0 (length mapping.links) in
    let parents = length-append (map (λ n. ids.Hub n) (range_with_len 0 (length mapping.hubs))) (map (λ n. ids.Link n) (range_with_len 0 (length mapping.links))) in
    let all = length-append (map (λ n. ids.Hub n) (range_with_len 0 (length mapping.hubs)) ++ map (λ n. ids.Link n) (range_with_len 0 (length mapping.links))) (feed_tables 0 mapping.feeds) in
    omega (arith, hubs, links, parents, all)

-- ---- what is found

pub Contains-take : {X : Type 0} (n : ℕ) (xs : List X) (x : X) → Contains (take n xs) x → Contains xs x
Contains-take n xs x has = subst (λ all. Contains all x) (take-append-drop n xs) (Contains-append_left (take n xs) (drop n xs) x has)

pub Contains-drop : {X : Type 0} (n : ℕ) (xs : List X) (x : X) → Contains (drop n xs) x → Contains xs x
Contains-drop n xs x has = subst (λ all. Contains all x) (take-append-drop n xs) (Contains-append_right (take n xs) (drop n xs) x has)

all_parts : {A B : Type 0} (P : B → Type 0) (f : A → List B) (xs : List A) → ((x : A) → Contains xs x → All P (f x)) → All P (flat_map f xs)
all_parts P f [] each = All-nil P
all_parts P f (x ∷ xs) each = All-append P (f x) (flat_map f xs) (each x (Contains-cons_here x xs)) (all_parts P f xs (λ y has. each y (Contains-cons_there x xs y has)))

module _ (mapping : Mapping) (hashes : Hashes) (names : List HubName) (window : Window) (entries : List TableRows) where
  sound_batches : (task : Task) (given : TaskResult) → IsResultOf mapping hashes names window entries task given → All (IsBatch mapping hashes names window entries) (batches_in given)
  sound_batches (Batch table) (gives.Batch batch) is = All-push (IsBatch mapping hashes names window entries) [] batch (All-nil (IsBatch mapping hashes names window entries)) is.0
  sound_batches (Batch table) gives.Keys is = absurd is
  sound_batches (Keys feed) given is = subst (All (IsBatch mapping hashes names window entries)) (sym is) (All-nil (IsBatch mapping hashes names window entries))

  -- the batches that tasks give are such
  pub all_batches : (ts : List Task) (count : ℕ) (results : List TaskResult) → count ≡ length ts
      → AreResults (λ n given. IfSome (slice_get ts n) (λ task. IsResultOf mapping hashes names window entries task given)) count results
      → All (IsBatch mapping hashes names window entries) (flat_map batches_in results)
  all_batches ts count results counted are =
      all_parts (IsBatch mapping hashes names window entries) batches_in results (λ given has. let own = of_task given has in sound_batches own.0 given own.1)
    where
      of_task : (given : TaskResult) → Contains results given → (task : Task) × IsResultOf mapping hashes names window entries task given
      of_task given has =
          let under : has.0 < length results = has.1 in
          let many = are.as_many in
          let (task, at) = got_from ts has.0 (omega (arith, under, many, counted)) in
          let there : slice_get results has.0 ≡ Some given = slice_get-get_or results has.0 given under ∙ ap (λ x. Some x) has.2 in
          (task, subst (λ t. IfSome t (λ task. IsResultOf mapping hashes names window entries task given)) at (are.each has.0 given there))

  -- and without those that are taken away
  pub still_found : (batches left : List TableBatch) → All (IsBatch mapping hashes names window entries) batches → ((batch : TableBatch) → Contains left batch → Contains batches batch) → All (IsBatch mapping hashes names window entries) left
  still_found batches left all within i d under = All-contains (IsBatch mapping hashes names window entries) batches (get_or left i d) all (within (get_or left i d) (Contains-get_or left i d under))
