-- How the reading of an extract's file is a part of the reading of a manifest's.
use Rattle.dv_given.proofs.Vocabulary.{Arrived, BringEnds, Brings, Contains, Contains-get_or, Ending, Err, ExtractEnds, ExtractIn, ExtractsEnd, FilesEnd, List, Manifest, ManifestExtract, NamedFile, None, Ok, Option, ReadEnds, Reading, ReadsExtract, ReadsNamed, ReadsNext, Result, Seen, Some, []}
use Rattle.dv_given.proofs.Vocabulary.{allowed, ap, arrival, arrival_by, brought, brought_if, brought_with, drop, drop_more, extract_bytes, false, first_absent, get_or, given, if◌then◌else◌, inl, inr, length, manifest_bytes, manifest_in, most_manifest_bytes, no_reading, option_map, read_from}
use Rattle.dv_given.proofs.Vocabulary.{read_more, read_next, read_on, refl, subst, sym, take, whole_window, with_extract, ℕ, ◌+◌, ◌<◌, ◌∙◌, ◌∷◌, ◌≡◌}
use Rattle.dv_given.proofs.{EndSteps.file_ends_so, ReadSteps.reads_made, ReadSteps.reads_so, WholeSteps.absent_whole, WholeSteps.none_absent, WholeSteps.stands_for_whole}
use Rattle.dv_given.specs.declared.arrivals.Arrived.TheVariants as arrived
use Rattle.dv_given.specs.Tried as spec

-- the bytes of the next extract's file are read, behind none with too many
module _ (r : Reading) (extract : ManifestExtract) (over : r.is_over ≡ false) where
  bytes_are : (files : List NamedFile) → extract_bytes files r extract.file ≡ given (allowed r.left + 1) files extract.file
  bytes_are files = ap (λ b. if b then Some [] else given (allowed r.left + 1) files extract.file) over

  extract_ends : (files : List NamedFile) (ending : Ending) → ReadEnds files extract.file ending → ExtractEnds files r extract ending
  extract_ends files =
      file_ends_so (λ file absent. ap (λ b. read_more extract b r) (bytes_are files ∙ ap (option_map (take (allowed r.left + 1))) absent.1) ∙ ap Err (sym absent.0)) (λ file is. sym is)

  pub extract_reads : (most : ℕ) → most ≡ allowed r.left → (folder : Seen (List NamedFile)) (result : Result (List ℕ) Ending) → ReadsNamed (most + 1) extract.file folder result → ReadsExtract r extract folder result
  extract_reads most is = reads_so (λ files bytes given_is. bytes_are files ∙ ap (λ n. given (n + 1) files extract.file) (sym is) ∙ given_is) extract_ends

-- the reading goes on behind it
pub next_reads : (extract : ManifestExtract) (r next : Reading) (bytes : List ℕ) → next ≡ with_extract extract.feed bytes r → (folder : Seen (List NamedFile)) → ReadsExtract r extract folder (Ok bytes)
    → ReadsNext extract r next folder (Ok tt)
next_reads extract r next bytes is folder = reads_made folder bytes tt (λ files so. ap (λ b. read_more extract b r) so ∙ ap Ok (sym is))

module _ (files : List NamedFile) (extracts : List ManifestExtract) (i : ℕ) (extract : ManifestExtract) (within : i < length extracts) (is : extract ≡ get_or extracts i extract) (r : Reading)
    (rest : read_from files r (drop i extracts) ≡ read_from files no_reading extracts) where
  by_next : (next : Result Reading (List ℕ)) → read_next files extract r ≡ next → read_from files no_reading extracts ≡ read_on next (λ q. read_from files q (drop (i + 1) extracts))
  by_next next read =
      sym rest ∙ ap (read_from files r) (drop_more extracts i extract within ∙ ap (λ x. x ∷ drop (i + 1) extracts) (sym is))
      ∙ ap (λ o. read_on o (λ q. read_from files q (drop (i + 1) extracts))) read

  -- the extract was read
  pub reads_on : (next : Reading) → read_next files extract r ≡ Ok next → read_from files next (drop (i + 1) extracts) ≡ read_from files no_reading extracts
  reads_on next read = sym (by_next (Ok next) read)

  -- its file could not be read
  pub extract_unread : (ending : Ending) → ExtractEnds files r extract ending → ExtractsEnd files extracts ending
  extract_unread = file_ends_so (λ file none. by_next (Err file) none) (λ file named. (extract, subst (Contains extracts) (sym is) (Contains-get_or extracts i extract within), named))

module _ (files : List NamedFile) (bytes : List ℕ) where
  module _ (manifest : Manifest) (is : manifest_in bytes ≡ Ok manifest) (extracts : List ManifestExtract) (same : extracts ≡ manifest.extracts) where
    -- what the manifest brings, by the reading of its extracts
    reads : (read : Result (List ExtractIn) (List ℕ)) → read_from files no_reading extracts ≡ read → read_from files no_reading manifest.extracts ≡ read
    reads read e = ap (read_from files no_reading) (sym same) ∙ e

    brought_is : brought files bytes ≡ brought_with (whole_window files manifest) (first_absent files 0 manifest.extracts)
    brought_is = ap (brought_if files) is

    -- the files of its extracts were read
    pub extracts_read : (read : List ExtractIn) → read_from files no_reading extracts ≡ Ok read
        → Brings (brought files bytes) (arrived.Brought (record { load = manifest.load; extracts = read }))
    extracts_read read e = subst (λ a. Brings a (arrived.Brought (record { load = manifest.load; extracts = read })))
        (sym (brought_is ∙ ap (brought_with (whole_window files manifest)) (none_absent files manifest read (reads (Ok read) e))))
        (record { load = manifest.load; extracts = read }, refl, stands_for_whole files manifest read (reads (Ok read) e))

    -- or could not be read
    pub extracts_unread : (ending : Ending) → ExtractsEnd files extracts ending → FilesEnd files bytes ending
    extracts_unread =
        file_ends_so (λ file absent. brought_is ∙ ap (brought_with (whole_window files manifest)) (absent_whole files manifest file (reads (Err file) absent)))
        (λ file named. (manifest, named.0, is, subst (λ xs. Contains xs named.0) same named.1, named.2))

-- ---- a manifest by its name

module _ (files : List NamedFile) (name : List ℕ) where
  arrival_at : (o : Option (List ℕ)) → manifest_bytes files name ≡ o → arrival files name ≡ arrival_by files name o
  arrival_at o e = ap (arrival_by files name) e

  -- it could not be read
  pub manifest_unread : (ending : Ending) → ReadEnds files name ending → BringEnds files name ending
  manifest_unread = file_ends_so (λ file absent. arrival_at None (ap (option_map (take (most_manifest_bytes + 1))) absent.1) ∙ ap spec.Absent (sym absent.0)) (λ file is. inl is)

  module _ (bytes : List ℕ) (there : manifest_bytes files name ≡ Some bytes) where
    -- it was read, and its files
    pub files_read : (came : Arrived) → Brings (brought files bytes) came → Brings (arrival files name) came
    files_read came brings = subst (λ a. Brings a came) (sym (arrival_at (Some bytes) there)) brings

    -- or these could not be read
    pub files_unread : (ending : Ending) → FilesEnd files bytes ending → BringEnds files name ending
    files_unread = file_ends_so (λ file absent. arrival_at (Some bytes) there ∙ absent) (λ file named. inr (bytes, there, named))
