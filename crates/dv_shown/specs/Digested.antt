-- Tables under MD5 (RFC 1321).
use Rattle.std.specs.Prelude.{◌≡◌, true, false, [], ◌∷◌, Some, None, codes, replicate}
use Rattle.md5.specs.Md5.{md5}
use Rattle.dv_text.specs.Keys.{Hashes, hashes_by}
use Rattle.dv_catalog.specs.declared.tables.TableId.TheVariants.{Link, Sat, Status}
use Rattle.dv_records.specs.declared.raw_rows.Code.TheVariants.{I, D}
use Rattle.dv_records.specs.declared.stores.Rows.TheVariants.{Links, Sats, Statuses}
use Rattle.dv_records.specs.Snapshots.{pit}
use Rattle.dv_records.specs.Vault.{table_after}
use Rattle.dv_shown.specs.Mappings.{with_accounts, with_names, with_orders}
use Rattle.dv_shown.specs.Windows.{coming_and_going, once, orders, tiers_later}
use Rattle.dv_shown.specs.Words.{day, key, unhex}
use Rattle.dv_records.specs.Backwards.{backwards}

abbrev pub md5_hashes : Hashes
md5_hashes = hashes_by md5 16

-- the hash key of the key 1, and the hash difference of the attribute abc
abbrev pub SatelliteDigested : Type 0
SatelliteDigested = table_after with_names md5_hashes (backwards once) (Sat 0) ≡ Sats (
    record {
      parent = unhex (codes "c4ca4238a0b923820dcc509a6f75849b");
      load = day 1;
      source = codes "crm.customers";
      diff = unhex (codes "900150983cd24fb0d6963f7d28e17f72");
      attrs = codes "abc" ∷ [];
    } ∷ [])

-- a key appears, vanishes and appears again
abbrev pub StatusDigested : Type 0
StatusDigested = table_after with_names md5_hashes (backwards coming_and_going) (Status 0) ≡ Statuses (
    record { parent = unhex (codes "c4ca4238a0b923820dcc509a6f75849b"); load = day 1; source = codes "crm.customers"; code = I }
    ∷ record { parent = unhex (codes "c4ca4238a0b923820dcc509a6f75849b"); load = day 2; source = codes "crm.customers"; code = D }
    ∷ record { parent = unhex (codes "c4ca4238a0b923820dcc509a6f75849b"); load = day 3; source = codes "crm.customers"; code = I }
    ∷ [])

-- the point-in-time table of two feeds
abbrev pub PitDigested : Type 0
PitDigested = pit with_accounts md5_hashes tiers_later 0 (day 2) ≡
    record {
      key = unhex (codes "c4ca4238a0b923820dcc509a6f75849b");
      cells = record { load = Some (day 1); present = true } ∷ record { load = None; present = false } ∷ [];
    }
    ∷ record {
      key = unhex (codes "c81e728d9d4c2f636f067f89cc14862c");
      cells = record { load = Some (day 1); present = true } ∷ record { load = Some (day 1); present = true } ∷ [];
    }
    ∷ record {
      key = unhex (codes "eccbc87e4b5ce2fe28308fd9f2a7baf3");
      cells = record { load = None; present = false } ∷ record { load = Some (day 1); present = false } ∷ [];
    }
    ∷ []

-- a missing reference, whose zero key has sixteen bytes, in the order of the digests
abbrev pub LinkDigested : Type 0
LinkDigested = table_after with_orders md5_hashes (backwards orders) (Link 0) ≡ Links (
    record {
      digest = unhex (codes "23fffa5d8832e83f92c34efd411ef6b8");
      load = day 1;
      source = codes "shop.placements";
      hubs = unhex (codes "c4ca4238a0b923820dcc509a6f75849b") ∷ unhex (codes "00594a175ce5a58f286d91ca0a6f15a2") ∷ [];
    }
    ∷ record {
      digest = unhex (codes "f8e4c621b87bf9c2bd13f39fb99db41d");
      load = day 1;
      source = codes "shop.placements";
      hubs = replicate 16 0 ∷ unhex (codes "bfc60714f62f15e1e72e0b21454cc99e") ∷ [];
    }
    ∷ [])

-- hash keys of keys, one of them of eighty digits, and hash differences of one attribute
pub record HashesDigested : Type 0 where
  pub one : md5_hashes.hash (key (codes "1") ∷ []) ≡ unhex (codes "c4ca4238a0b923820dcc509a6f75849b")
  pub two : md5_hashes.hash (key (codes "2") ∷ []) ≡ unhex (codes "c81e728d9d4c2f636f067f89cc14862c")
  pub three : md5_hashes.hash (key (codes "3") ∷ []) ≡ unhex (codes "eccbc87e4b5ce2fe28308fd9f2a7baf3")
  pub long : md5_hashes.hash (key (codes "12345678901234567890123456789012345678901234567890123456789012345678901234567890") ∷ []) ≡ unhex (codes "57edf4a22be3c955ac49da2e2107b67a")
  pub missing : md5_hashes.hash (key [] ∷ []) ≡ replicate 16 0
  pub attribute : md5_hashes.diff (codes "abc" ∷ []) ≡ unhex (codes "900150983cd24fb0d6963f7d28e17f72")
  pub blank : md5_hashes.diff ([] ∷ []) ≡ unhex (codes "d41d8cd98f00b204e9800998ecf8427e")
