-- The run over manifests, so far.
use Rattle.dv_app.proofs.Vocabulary.{Absent, BringEnds, Ending, Err, GotPrefix, Hashes, IsLoaded, LineCut, LinesCut, List, Loaded, Loading, Mapping, Memory, NamedFile, NextEnds, Ok, Progress, Result, Seen, Some, Unbrought, Unloaded, Unread, Went, [], after, after-after, after-nil, ap}
use Rattle.dv_app.proofs.Vocabulary.{bring_end_so, drop, drop_more, get_or, got_behind, inl, inr, joined, length, lines_of, refl, rose_later, slice_get-get_or, start, step, step_by, step_on, steps, subst, sym, take, take-append-drop, take_all, take_more, ℕ, ◌++◌, ◌+◌, ◌<◌, ◌∙◌, ◌∷◌, ◌≡◌, ◌≤◌, ◌⊎◌}

-- ---- the run over the folder's files

module _ (mapping : Mapping) (hashes : Hashes) (files : List NamedFile) where
  abbrev run : Progress → List (List ℕ) → Result Progress (List ℕ)
  run = steps mapping hashes files

  step_on_so : (a b : List (List ℕ)) → ((q : Progress) → run q (a ++ b) ≡ step_on (run q a) (λ q. run q b)) → (r : Result Progress (List ℕ))
      → step_on r (λ q. run q (a ++ b)) ≡ step_on (step_on r (λ q. run q a)) (λ q. run q b)
  step_on_so a b so (Err lines) = refl
  step_on_so a b so (Ok q) = so q

  steps-append : (p : Progress) (a b : List (List ℕ)) → run p (a ++ b) ≡ step_on (run p a) (λ q. run q b)
  steps-append p [] b = refl
  steps-append p (name ∷ a) b = step_on_so a b (λ q. steps-append q a b) (step mapping hashes files name p)

  ends_so : (r : Result Progress (List ℕ)) → step_on r (λ q. Ok q) ≡ r
  ends_so (Err lines) = refl
  ends_so (Ok q) = refl

  module _ (names : List (List ℕ)) (i : ℕ) (name : List ℕ) (within : i < length names) (is : name ≡ get_or names i name) (p : Progress) (so_far : run start (take i names) ≡ Ok p) where
    behind : (rest more : List (List ℕ)) → more ≡ take i names ++ rest → run start more ≡ run p rest
    behind rest more e = ap (run start) e ∙ steps-append start (take i names) rest ∙ ap (λ r. step_on r (λ q. run q rest)) so_far

    -- one more
    next_is : run start (take (i + 1) names) ≡ step mapping hashes files name p
    next_is = behind (name ∷ []) (take (i + 1) names) (take_more names i name within ∙ ap (λ n. take i names ++ n ∷ []) (sym is)) ∙ ends_so (step mapping hashes files name p)

    -- and all that are behind it
    rest_is : run start names ≡ step_on (step mapping hashes files name p) (λ q. run q (drop (i + 1) names))
    rest_is = behind (name ∷ drop (i + 1) names) names
        (sym (take-append-drop i names) ∙ ap (λ l. take i names ++ l) (drop_more names i name within ∙ ap (λ n. n ∷ drop (i + 1) names) (sym is)))

    -- why all are not taken
    next_ends : (ending : Ending) → BringEnds files name ending → NextEnds mapping hashes files names i p.lines ending
    next_ends (Absent file) absent = rest_is ∙ ap (λ a. step_on (step_by mapping hashes name a p) (λ q. run q (drop (i + 1) names))) absent
    next_ends (Unread file) read = (name, slice_get-get_or names i name within ∙ ap Some (sym is), read)
    next_ends Memory memory = memory
    next_ends ending none = absurd none

-- ---- what the code has of it

-- before the first manifest
pub none_yet : (mapping : Mapping) (hashes : Hashes) (names : List (List ℕ)) (loading : Loading) (folder : Seen (List NamedFile)) (err : Seen (List ℕ)) → err.new ≡ err.old → IsLoaded mapping hashes loading start
    → Loaded mapping hashes (take 0 names) loading folder err
none_yet mapping hashes names loading folder err quiet loaded =
    record { progress = start; steps_are = λ files told. refl; said_is = quiet ∙ sym (after-nil err.old); loaded_is = loaded }

module _ (mapping : Mapping) (hashes : Hashes) (names : List (List ℕ)) (i : ℕ) (name : List ℕ) (within : i < length names) (is : name ≡ get_or names i name)
    (folder more : Seen (List NamedFile)) (kept : more.old ≡ folder.old) (later : folder.before ≤ more.before) (err lines : Seen (List ℕ)) (heard : lines.old ≡ err.new) (err_later : err.before ≤ lines.before)
    (loading : Loading) (first : Loaded mapping hashes (take i names) loading folder err) where
  abbrev p : Progress
  p = first.progress

  -- one more is taken
  pub goes_on : (loading' : Loading) → Went mapping hashes name p loading' more lines → Loaded mapping hashes (take (i + 1) names) loading' (joined folder more) (joined err lines)
  goes_on loading' went = record {
    progress = went.next;
    steps_are = λ files told. next_is mapping hashes files names i name within is p (first.steps_are files told) ∙ went.step_is files (kept ∙ told);
    said_is = went.said_is ∙ ap (λ o. after o went.line) (heard ∙ first.said_is) ∙ after-after err.old p.lines went.line ∙ ap (after err.old) (sym went.lines_are);
    loaded_is = went.loaded_is;
  }

  -- or all are not
  pub stops_at : (ending : Ending) → (Unbrought name more lines ending ⊎ LineCut mapping hashes name p more lines ending)
      → Unloaded mapping hashes names (joined folder more) (joined err lines) ending ⊎ LinesCut mapping hashes names (joined folder more) (joined err lines) ending
  stops_at ending (inl none) = inl (record {
    k = i;
    lines = p.lines;
    said_is = none.quiet ∙ heard ∙ first.said_is;
    cause = bring_end_so folder.before more.before more.now later ending none.cause;
    lines_are = λ files told. ap lines_of (first.steps_are files told);
    ends = λ files told. next_ends mapping hashes files names i name within is p (first.steps_are files told) ending (none.ends files (kept ∙ told));
  })
  stops_at ending (inr cut) = inr (record {
    unwritten = cut.unwritten;
    rose = rose_later err.before lines.before lines.now err_later cut.rose;
    k = i + 1;
    lines = cut.next.lines;
    lines_are = λ files told. ap lines_of (next_is mapping hashes files names i name within is p (first.steps_are files told) ∙ cut.step_is files (kept ∙ told));
    got = subst (GotPrefix err.old lines.new) (sym cut.lines_are) (got_behind err.old lines.old lines.new p.lines cut.line (heard ∙ first.said_is) cut.got);
  })

-- all of them are taken
pub all_taken : (mapping : Mapping) (hashes : Hashes) (names : List (List ℕ)) (i : ℕ) (loading : Loading) (folder : Seen (List NamedFile)) (err : Seen (List ℕ)) → length names ≤ i
    → Loaded mapping hashes (take i names) loading folder err → Loaded mapping hashes names loading folder err
all_taken mapping hashes names i loading folder err whole first = subst (λ taken. Loaded mapping hashes taken loading folder err) (take_all i names whole) first
