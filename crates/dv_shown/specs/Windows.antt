-- Windows of the examples.
use Rattle.std.specs.Prelude.{ℕ, ◌+◌, List, [], ◌∷◌, ◌++◌, codes}
use Rattle.dv_text.specs.declared.rows.NRow.{NRow}
use Rattle.dv_text.specs.declared.rows.Window.{Window}
use Rattle.dv_shown.specs.Words.{bare_row, described_row, key, named_row, pair_row, place, row, staged, window}

-- ---- one feed of a hub

-- two keys alone
abbrev pub two_keys_window : Window
two_keys_window = window 1 (staged 0 (bare_row (codes "A1") ∷ bare_row (codes "A2") ∷ []) ∷ [])

abbrev pub two_keys : List Window
two_keys = two_keys_window ∷ []

-- keys alone that come and go
abbrev pub keys_come_and_go : List Window
keys_come_and_go =
    window 1 (staged 0 (bare_row (codes "A1") ∷ bare_row (codes "A2") ∷ []) ∷ [])
    ∷ window 2 (staged 0 (bare_row (codes "A2") ∷ bare_row (codes "A3") ∷ []) ∷ [])
    ∷ window 3 (staged 0 [] ∷ [])
    ∷ window 4 (staged 0 (bare_row (codes "A1") ∷ []) ∷ [])
    ∷ []

-- one key with an attribute
abbrev pub once : List Window
once = window 1 (staged 0 (named_row (codes "1") (codes "abc") ∷ []) ∷ []) ∷ []

-- two keys, then a header alone
abbrev pub emptied : List Window
emptied =
    window 1 (staged 0 (named_row (codes "1") (codes "x") ∷ named_row (codes "2") (codes "y") ∷ []) ∷ [])
    ∷ window 2 (staged 0 [] ∷ [])
    ∷ []

-- a key comes, goes and comes again with the same attribute
abbrev pub coming_and_going : List Window
coming_and_going =
    window 1 (staged 0 (named_row (codes "1") (codes "abc") ∷ []) ∷ [])
    ∷ window 2 (staged 0 [] ∷ [])
    ∷ window 3 (staged 0 (named_row (codes "1") (codes "abc") ∷ []) ∷ [])
    ∷ []

-- an attribute changes and changes back
abbrev pub there_and_back : List Window
there_and_back =
    window 1 (staged 0 (named_row (codes "1") (codes "x") ∷ []) ∷ [])
    ∷ window 2 (staged 0 (named_row (codes "1") (codes "y") ∷ []) ∷ [])
    ∷ window 3 (staged 0 (named_row (codes "1") (codes "x") ∷ []) ∷ [])
    ∷ []

-- one key goes, one stays, one comes
abbrev pub exchanged : List Window
exchanged =
    window 1 (staged 0 (named_row (codes "2") (codes "x") ∷ named_row (codes "3") (codes "x") ∷ []) ∷ [])
    ∷ window 2 (staged 0 (named_row (codes "1") (codes "x") ∷ named_row (codes "2") (codes "x") ∷ []) ∷ [])
    ∷ []

-- two attributes that begin with one letter
abbrev pub begun_alike : List Window
begun_alike =
    window 1 (staged 0 (named_row (codes "1") (codes "abc") ∷ []) ∷ [])
    ∷ window 2 (staged 0 (named_row (codes "1") (codes "axe") ∷ []) ∷ [])
    ∷ []

-- a key goes, and comes again with another attribute
abbrev pub changed_while_away : List Window
changed_while_away =
    window 1 (staged 0 (named_row (codes "1") (codes "x") ∷ []) ∷ [])
    ∷ window 2 (staged 0 [] ∷ [])
    ∷ window 3 (staged 0 (named_row (codes "1") (codes "y") ∷ []) ∷ [])
    ∷ []

-- an attribute changes, the key goes, and comes again with the older attribute
abbrev pub older_again : List Window
older_again =
    window 1 (staged 0 (named_row (codes "1") (codes "x") ∷ []) ∷ [])
    ∷ window 2 (staged 0 (named_row (codes "1") (codes "y") ∷ []) ∷ [])
    ∷ window 3 (staged 0 [] ∷ [])
    ∷ window 4 (staged 0 (named_row (codes "1") (codes "x") ∷ []) ∷ [])
    ∷ []

-- two keys that read backwards in the other order
abbrev pub two_digits : List Window
two_digits = window 1 (staged 0 (bare_row (codes "12") ∷ bare_row (codes "21") ∷ []) ∷ []) ∷ []

-- an attribute changes after three days, and a second key comes
abbrev pub three_days_apart : List Window
three_days_apart =
    window 1 (staged 0 (named_row (codes "1") (codes "abc") ∷ []) ∷ [])
    ∷ window 4 (staged 0 (named_row (codes "1") (codes "abd") ∷ named_row (codes "2") (codes "x") ∷ []) ∷ [])
    ∷ []

-- a window of two keys is open after one of two keys, of which it has one
abbrev pub next_keys : Window
next_keys = window 2 (staged 0 (bare_row (codes "A2") ∷ bare_row (codes "A3") ∷ []) ∷ [])

-- ---- two feeds of a hub

-- both feeds, then one
abbrev pub one_absent : List Window
one_absent =
    window 1 (staged 0 (named_row (codes "1") (codes "abc") ∷ []) ∷ staged 1 (named_row (codes "1") (codes "gold") ∷ []) ∷ [])
    ∷ window 2 (staged 1 (named_row (codes "1") (codes "tin") ∷ []) ∷ [])
    ∷ []

-- a key of both feeds and one of each
abbrev pub tiers : List Window
tiers =
    window 1 (
    staged 0 (named_row (codes "1") (codes "abc") ∷ named_row (codes "2") (codes "x") ∷ [])
    ∷ staged 1 (named_row (codes "2") (codes "gold") ∷ named_row (codes "3") (codes "tin") ∷ [])
    ∷ [])
    ∷ []

-- then the second feed without one of its keys
abbrev pub tiers_later : List Window
tiers_later = tiers ++ window 2 (staged 1 (named_row (codes "2") (codes "gold") ∷ []) ∷ []) ∷ []

-- the greater key by the first feed
abbrev pub crossed : List Window
crossed = window 1 (staged 0 (named_row (codes "2") (codes "x") ∷ []) ∷ staged 1 (named_row (codes "1") (codes "gold") ∷ []) ∷ []) ∷ []

-- ---- several rows for one key

-- one of three numbers changes
abbrev pub phones : List Window
phones =
    window 1 (staged 0 (
    row (codes "1" ∷ []) (codes "fax" ∷ []) (codes "12" ∷ [])
    ∷ row (codes "1" ∷ []) (codes "home" ∷ []) (codes "10" ∷ [])
    ∷ row (codes "1" ∷ []) (codes "work" ∷ []) (codes "11" ∷ [])
    ∷ []) ∷ [])
    ∷ window 2 (staged 0 (
    row (codes "1" ∷ []) (codes "fax" ∷ []) (codes "12" ∷ [])
    ∷ row (codes "1" ∷ []) (codes "home" ∷ []) (codes "10" ∷ [])
    ∷ row (codes "1" ∷ []) (codes "work" ∷ []) (codes "21" ∷ [])
    ∷ []) ∷ [])
    ∷ []

-- of two owners one loses a number, and the other stays
abbrev pub fewer_phones : List Window
fewer_phones =
    window 1 (staged 0 (
    row (codes "1" ∷ []) (codes "home" ∷ []) (codes "10" ∷ [])
    ∷ row (codes "1" ∷ []) (codes "work" ∷ []) (codes "11" ∷ [])
    ∷ row (codes "2" ∷ []) (codes "fax" ∷ []) (codes "20" ∷ [])
    ∷ []) ∷ [])
    ∷ window 2 (staged 0 (
    row (codes "1" ∷ []) (codes "work" ∷ []) (codes "11" ∷ [])
    ∷ row (codes "2" ∷ []) (codes "fax" ∷ []) (codes "20" ∷ [])
    ∷ []) ∷ [])
    ∷ []

-- a number of a kind, of the first customer
abbrev pub phone : List ℕ → List ℕ → NRow
phone kind number = row (codes "1" ∷ []) (kind ∷ []) (number ∷ [])

-- windows of one feed, one a day
abbrev pub daily : ℕ → List (List NRow) → List Window
daily n [] = []
daily n (rows ∷ later) = window n (staged 0 rows ∷ []) ∷ daily (n + 1) later

-- both numbers go, and come again
abbrev pub phones_again : List Window
phones_again =
    daily 1 ((phone (codes "fax") (codes "12") ∷ phone (codes "home") (codes "10") ∷ []) ∷ [] ∷ (phone (codes "fax") (codes "12") ∷ phone (codes "home") (codes "10") ∷ []) ∷ [])

-- both go, and one of them comes again
abbrev pub one_again : List Window
one_again = daily 1 ((phone (codes "fax") (codes "12") ∷ phone (codes "home") (codes "10") ∷ []) ∷ [] ∷ (phone (codes "home") (codes "10") ∷ []) ∷ [])

-- two kinds swap their numbers
abbrev pub swapped : List Window
swapped = daily 1 ((phone (codes "fax") (codes "12") ∷ phone (codes "home") (codes "10") ∷ []) ∷ (phone (codes "fax") (codes "10") ∷ phone (codes "home") (codes "12") ∷ []) ∷ [])

-- a number changes its kind
abbrev pub kind_renamed : List Window
kind_renamed = daily 1 ((phone (codes "home") (codes "10") ∷ []) ∷ (phone (codes "work") (codes "10") ∷ []) ∷ [])

-- a second number comes
abbrev pub phone_added : List Window
phone_added = daily 1 ((phone (codes "home") (codes "10") ∷ []) ∷ (phone (codes "fax") (codes "12") ∷ phone (codes "home") (codes "10") ∷ []) ∷ [])

-- a number changes, but for its first digit
abbrev pub phone_alike : List Window
phone_alike = daily 1 ((phone (codes "home") (codes "10") ∷ []) ∷ (phone (codes "home") (codes "12") ∷ []) ∷ [])

-- a number of a kind at a place
abbrev pub phone_at : List ℕ → List ℕ → List ℕ → NRow
phone_at kind at number = row (codes "1" ∷ []) (kind ∷ at ∷ []) (number ∷ [])

-- one of three numbers changes its place
abbrev pub moved_phones : List Window
moved_phones =
    daily 1 (
    (phone_at (codes "fax") (codes "A") (codes "1") ∷ phone_at (codes "fax") (codes "B") (codes "2") ∷ phone_at (codes "home") (codes "A") (codes "3") ∷ [])
    ∷ (phone_at (codes "fax") (codes "A") (codes "1") ∷ phone_at (codes "fax") (codes "B") (codes "2") ∷ phone_at (codes "home") (codes "B") (codes "3") ∷ [])
    ∷ [])

-- ---- feeds of one hub with an attribute, with a sub, and of keys alone

abbrev pub all_kinds : List Window
all_kinds =
    window 1 (
    staged 0 (named_row (codes "1") (codes "abc") ∷ named_row (codes "2") (codes "x") ∷ [])
    ∷ staged 1 (
    phone (codes "fax") (codes "12")
    ∷ phone (codes "home") (codes "10")
    ∷ row (codes "3" ∷ []) (codes "home" ∷ []) (codes "30" ∷ [])
    ∷ [])
    ∷ staged 2 (bare_row (codes "2") ∷ bare_row (codes "4") ∷ [])
    ∷ [])
    ∷ window 2 (staged 1 (phone (codes "fax") (codes "12") ∷ []) ∷ staged 2 [] ∷ [])
    ∷ []

-- ---- a link with a driving key

-- an employee gets another role, and then another department
abbrev pub promoted : List Window
promoted =
    daily 1 (
    (described_row (codes "1") (codes "P") (codes "clerk") ∷ [])
    ∷ (described_row (codes "1") (codes "P") (codes "chief") ∷ [])
    ∷ (described_row (codes "1") (codes "Q") (codes "chief") ∷ [])
    ∷ [])

-- an employee, a department and a project
abbrev pub team : List ℕ → List ℕ → List ℕ → NRow
team employee department project = row (employee ∷ department ∷ project ∷ []) [] []

-- two teams that share one of two driving keys, of which one gets another project
abbrev pub one_driver_shared : List Window
one_driver_shared =
    daily 1 (
    (team (codes "1") (codes "P") (codes "X") ∷ team (codes "1") (codes "Q") (codes "Y") ∷ [])
    ∷ (team (codes "1") (codes "P") (codes "Z") ∷ team (codes "1") (codes "Q") (codes "Y") ∷ [])
    ∷ [])

-- an assignment changes after three days
abbrev pub assigned_later : List Window
assigned_later =
    window 1 (staged 0 (pair_row (codes "1") (codes "P") ∷ []) ∷ [])
    ∷ window 4 (staged 0 (pair_row (codes "1") (codes "Q") ∷ []) ∷ [])
    ∷ []

-- two assignments whose texts read backwards in the other order
abbrev pub crossed_pairs : List Window
crossed_pairs = window 1 (staged 0 (pair_row (codes "1") (codes "P2") ∷ pair_row (codes "2") (codes "P1") ∷ []) ∷ []) ∷ []

-- an employee changes department and comes back
abbrev pub assignments : List Window
assignments =
    window 1 (staged 0 (pair_row (codes "1") (codes "P") ∷ []) ∷ [])
    ∷ window 2 (staged 0 (pair_row (codes "1") (codes "Q") ∷ []) ∷ [])
    ∷ window 3 (staged 0 (pair_row (codes "1") (codes "P") ∷ []) ∷ [])
    ∷ []

-- an assignment stays, over a window without the feed, and then ends
abbrev pub stayed : List Window
stayed =
    window 1 (staged 0 (pair_row (codes "1") (codes "P") ∷ []) ∷ [])
    ∷ window 2 []
    ∷ window 3 (staged 0 (pair_row (codes "1") (codes "P") ∷ []) ∷ [])
    ∷ window 4 (staged 0 [] ∷ [])
    ∷ []

-- ---- links

-- two orders, one of them by nobody, and three lines
abbrev pub orders : List Window
orders =
    window 1 (
    staged 0 (pair_row [] (codes "O2") ∷ pair_row (codes "1") (codes "O1") ∷ [])
    ∷ staged 1 (
    described_row (codes "O1") (codes "P1") (codes "3")
    ∷ described_row (codes "O1") (codes "P2") (codes "2")
    ∷ described_row (codes "O2") (codes "P2") (codes "1")
    ∷ [])
    ∷ [])
    ∷ []

-- then one of the lines again
abbrev pub orders_again : List Window
orders_again = orders ++ window 2 (staged 1 (described_row (codes "O1") (codes "P1") (codes "3") ∷ []) ∷ []) ∷ []

-- orders of the customers 1 and 10
abbrev pub ten_customers : List Window
ten_customers =
    window 1 (
    staged 0 (pair_row (codes "1") (codes "O1") ∷ pair_row (codes "10") (codes "O2") ∷ [])
    ∷ staged 1 (described_row (codes "O1") (codes "P1") (codes "3") ∷ described_row (codes "O2") (codes "P2") (codes "1") ∷ [])
    ∷ [])
    ∷ []

-- three orders, of which one has a line
abbrev pub few_lines : List Window
few_lines =
    window 1 (
    staged 0 (pair_row (codes "1") (codes "O1") ∷ pair_row (codes "1") (codes "O2") ∷ pair_row (codes "2") (codes "O3") ∷ [])
    ∷ staged 1 (described_row (codes "O2") (codes "P1") (codes "3") ∷ [])
    ∷ [])
    ∷ []

-- two orders of one product each, which have one supplier each
abbrev pub supplied : List Window
supplied =
    window 1 (
    staged 0 (pair_row (codes "1") (codes "O1") ∷ pair_row (codes "1") (codes "O2") ∷ [])
    ∷ staged 1 (pair_row (codes "O1") (codes "P1") ∷ pair_row (codes "O2") (codes "P2") ∷ [])
    ∷ staged 2 (pair_row (codes "P1") (codes "S1") ∷ pair_row (codes "P2") (codes "S2") ∷ [])
    ∷ [])
    ∷ []

-- an order placed by two channels
abbrev pub two_channels : List Window
two_channels =
    window 1 (
    staged 0 (
    row (codes "1" ∷ codes "O1" ∷ []) (codes "mail" ∷ []) (codes "x" ∷ [])
    ∷ row (codes "1" ∷ codes "O1" ∷ []) (codes "web" ∷ []) (codes "y" ∷ [])
    ∷ [])
    ∷ staged 1 (described_row (codes "O1") (codes "P1") (codes "3") ∷ [])
    ∷ [])
    ∷ []

-- customers by a link's feed, then by it and by the hub's own
abbrev pub placed_first : List Window
placed_first =
    window 1 (staged 0 (pair_row (codes "1") (codes "O1") ∷ []) ∷ [])
    ∷ window 2 (
    staged 0 (pair_row (codes "2") (codes "O1") ∷ [])
    ∷ staged 2 (bare_row (codes "1") ∷ bare_row (codes "2") ∷ bare_row (codes "3") ∷ [])
    ∷ [])
    ∷ []

-- an order by the first of two feeds, one by both and one by the second, which then has the first order and not the other
abbrev pub imported : List Window
imported =
    window 1 (
    staged 0 (pair_row (codes "1") (codes "O1") ∷ pair_row (codes "2") (codes "O2") ∷ [])
    ∷ staged 1 (pair_row (codes "2") (codes "O2") ∷ pair_row (codes "3") (codes "O3") ∷ [])
    ∷ [])
    ∷ window 2 (staged 1 (pair_row (codes "1") (codes "O1") ∷ pair_row (codes "3") (codes "O3") ∷ []) ∷ [])
    ∷ []

-- an order that two customers share, and one of the second alone
abbrev pub shared_order : List Window
shared_order = daily 1 ((pair_row (codes "1") (codes "O1") ∷ pair_row (codes "2") (codes "O1") ∷ pair_row (codes "2") (codes "O2") ∷ []) ∷ [])

-- no line is left after three days
abbrev pub orders_emptied : List Window
orders_emptied = orders ++ window 4 (staged 1 [] ∷ []) ∷ []

-- a customer at a site, and a product at a site
abbrev pub visit : List ℕ → List ℕ → List ℕ → NRow
visit customer region site = record { refs = key customer ∷ place region site ∷ []; sub = []; attrs = [] }

abbrev pub stock : List ℕ → List ℕ → List ℕ → NRow
stock region site product = record { refs = place region site ∷ key product ∷ []; sub = []; attrs = [] }

-- two visited sites, of which one has stock, and stock at a site that has one part with it in common
abbrev pub stocked : List Window
stocked =
    window 1 (
    staged 0 (visit (codes "1") (codes "NORTH") (codes "A") ∷ visit (codes "2") (codes "NORTH") (codes "B") ∷ [])
    ∷ staged 1 (stock (codes "NORTH") (codes "A") (codes "P1") ∷ stock (codes "SOUTH") (codes "A") (codes "P2") ∷ [])
    ∷ [])
    ∷ []

-- two teams of one project and one of another, and owners of two projects
abbrev pub owned : List Window
owned =
    window 1 (
    staged 0 (team (codes "1") (codes "P") (codes "X") ∷ team (codes "1") (codes "Q") (codes "X") ∷ team (codes "2") (codes "P") (codes "Y") ∷ [])
    ∷ staged 1 (pair_row (codes "C") (codes "X") ∷ pair_row (codes "D") (codes "Z") ∷ [])
    ∷ [])
    ∷ []

-- ---- collisions

-- keys of two parts with one text
abbrev pub one_text : List Window
one_text = window 1 (staged 0 (
    record { refs = record { parts = codes "A" ∷ codes "B;C" ∷ [] } ∷ []; sub = []; attrs = [] }
    ∷ record { refs = record { parts = codes "A;B" ∷ codes "C" ∷ [] } ∷ []; sub = []; attrs = [] }
    ∷ []) ∷ []) ∷ []

-- one key of two parts
abbrev pub one_site : List Window
one_site = window 1 (staged 0 (record { refs = record { parts = codes "NORTH" ∷ codes "A" ∷ [] } ∷ []; sub = []; attrs = [] } ∷ []) ∷ []) ∷ []

-- a key, another attribute, and then two keys that begin with one letter
abbrev pub keys_alike : List Window
keys_alike = begun_alike ++ window 3 (staged 0 (named_row (codes "A1") (codes "x") ∷ named_row (codes "A2") (codes "x") ∷ []) ∷ []) ∷ []

-- keys of two letters, the least one in the last window
abbrev pub letters : List Window
letters =
    window 1 (staged 0 (bare_row (codes "B1") ∷ bare_row (codes "B2") ∷ []) ∷ [])
    ∷ window 2 (staged 0 (bare_row (codes "A3") ∷ bare_row (codes "C") ∷ []) ∷ [])
    ∷ window 3 (staged 0 (bare_row (codes "A1") ∷ bare_row (codes "A2") ∷ bare_row (codes "A4") ∷ []) ∷ [])
    ∷ []

-- a key whose text is the byte 0
abbrev pub zero_byte : List Window
zero_byte = window 1 (staged 0 (bare_row (0 ∷ []) ∷ []) ∷ []) ∷ []

-- reference lists with one text, of keys that all have texts of their own
abbrev pub lists_alike : List Window
lists_alike = window 1 (staged 0 (pair_row (codes "A") (codes "B;C") ∷ pair_row (codes "A;B") (codes "C") ∷ []) ∷ []) ∷ []

-- departments and lists that begin with one letter, of different employees
abbrev pub departments_alike : List Window
departments_alike = window 1 (staged 0 (pair_row (codes "1") (codes "P1") ∷ pair_row (codes "2") (codes "P2") ∷ pair_row (codes "2") (codes "P3") ∷ []) ∷ []) ∷ []

-- employees, departments and lists that begin with one letter
abbrev pub all_alike : List Window
all_alike = window 1 (staged 0 (pair_row (codes "A1") (codes "P1") ∷ pair_row (codes "A2") (codes "P2") ∷ []) ∷ []) ∷ []

-- ---- a second hub, link or feed

-- an employee and an assignment, of two feeds
abbrev pub staffed : List Window
staffed = window 1 (staged 0 (bare_row (codes "1") ∷ []) ∷ staged 1 (pair_row (codes "1") (codes "P") ∷ []) ∷ []) ∷ []

-- a customer, and a site with its area
abbrev pub placed_sites : List Window
placed_sites =
    window 1 (
    staged 0 (named_row (codes "1") (codes "abc") ∷ [])
    ∷ staged 1 (record { refs = record { parts = codes "NORTH" ∷ codes "A" ∷ [] } ∷ []; sub = []; attrs = codes "12" ∷ [] } ∷ [])
    ∷ [])
    ∷ []
