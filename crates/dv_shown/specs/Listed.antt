-- What manifests say.
use Rattle.std.specs.Prelude.{◌≡◌, ℕ, ◌<◌, ◌≤◌, List, [], ◌∷◌, ◌++◌, Result, Ok, Err, codes, length}
use Rattle.dv_mapfile.specs.declared.manifests.Manifest.{Manifest}
use Rattle.dv_catalog.specs.Documents.{document_of}
use Rattle.dv_mapfile.specs.Manifests.{manifest_in, manifest_or_text}
use Rattle.dv_shown.specs.Words.{day}

-- the load date of the first day
abbrev pub loaded : List ℕ
loaded = codes "load = \"2024-03-01T02:00:00\"\n"

-- an extract of customers
abbrev pub an_extract : List ℕ
an_extract = codes "[[extract]]\nfeed = \"customers\"\nfile = \"c1.csv\"\n"

-- the place of the first fault
abbrev pub fault : List ℕ → Result Manifest (List ℕ)
fault place = Err place

-- manifests that are read, and the first faults of others
pub record ManifestsRead : Type 0 where
  pub one : manifest_in (loaded ++ an_extract) ≡ Ok (record { load = day 1; extracts = record { feed = codes "customers"; file = codes "c1.csv" } ∷ [] })
  pub in_their_order :
      manifest_in (loaded ++ codes "[[extract]]\nfile = \"b.csv\"\nfeed = \"b\"\n" ++ an_extract)
      ≡ Ok (record { load = day 1; extracts = record { feed = codes "b"; file = codes "b.csv" } ∷ record { feed = codes "customers"; file = codes "c1.csv" } ∷ [] })
  pub other_keys : manifest_in (codes "by = 3\n" ++ loaded) ≡ Ok (record { load = day 1; extracts = [] })
  pub no_text : manifest_in (codes "load = \n") ≡ fault (codes "text")
  pub no_load : manifest_in an_extract ≡ fault (codes "load")
  pub no_stamp : manifest_in (codes "load = \"2024-02-30T00:00:00\"\n") ≡ fault (codes "load")
  pub number_for_load : manifest_in (codes "load = 3\n") ≡ fault (codes "load")
  pub no_list : manifest_in (loaded ++ codes "extract = 3\n") ≡ fault (codes "extract")
  pub load_before_extract : manifest_in (codes "extract = 3\n") ≡ fault (codes "load")
  pub no_feed : manifest_in (loaded ++ an_extract ++ codes "[[extract]]\nfile = \"c2.csv\"\n") ≡ fault (codes "extract 2 feed")
  pub no_file : manifest_in (loaded ++ codes "[[extract]]\nfeed = \"customers\"\nfile = 3\n") ≡ fault (codes "extract 1 file")
  pub feed_before_file : manifest_in (loaded ++ codes "[[extract]]\n") ≡ fault (codes "extract 1 feed")
  pub too_long : (bytes : List ℕ) → 65536 < length bytes → manifest_in bytes ≡ fault (codes "length")
  pub long : (bytes : List ℕ) → length bytes ≤ 65536 → manifest_in bytes ≡ manifest_or_text (document_of bytes)
