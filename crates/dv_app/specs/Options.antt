-- The words behind the first one: positionals, and options with their values.
use Rattle.std.specs.Option.{option_or}
use Rattle.std.specs.Prelude.{ℕ, ◌==◌, Bool, false, ◌||◌, List, [], ◌∷◌, ◌++◌, Option, Some, None, codes, is_none, is_some, option_and_then, option_map, if◌then◌else◌}
use Rattle.std.specs.Str.{bytes_eq}
use Rattle.dv_crew.specs.declared.orders.Order.{Order}
use Rattle.dv_crew.specs.declared.orders.Order.TheVariants.{Declared, Reverse}
use Rattle.dv_print.specs.Words.{behind}
use Rattle.dv_given.specs.Numbers.{default_workers, workers_in}
use Rattle.dv_app.specs.declared.options.Expected.{Expected}
use Rattle.dv_app.specs.declared.options.Expected.TheVariants.{Any, Value, Positional}
use Rattle.dv_app.specs.declared.options.Found.{Found}
use Rattle.dv_app.specs.declared.options.OptionName.{OptionName}
use Rattle.dv_app.specs.declared.options.OptionName.TheVariants as names

-- ---- the positionals, and the value of each option

-- nothing was said yet, and the first word may be anything
abbrev pub nothing : Found
nothing = record { next = Any; positionals = []; workers = None; order = None }

-- the next word may be this
abbrev pub expecting : Found → Expected → Found
expecting found next = record found { next = next }

-- one positional more
abbrev pub with_positional : Found → List ℕ → Found
with_positional found word = record found { positionals = found.positionals ++ word ∷ [] }

-- the value of an option; none where it has one
abbrev pub with_value : Found → OptionName → List ℕ → Option Found
with_value found names.Workers value = if is_none found.workers then Some (record found { next = Any; workers = Some value }) else None
with_value found names.Order value = if is_none found.order then Some (record found { next = Any; order = Some value }) else None

-- the option that a word names
abbrev pub option_named : List ℕ → Option OptionName
option_named word =
    if bytes_eq word (codes "--workers") then Some names.Workers
    else (if bytes_eq word (codes "--order") then Some names.Order else None)

-- the option that a word holds with its value
abbrev pub option_held : List ℕ → Option (OptionName × List ℕ)
option_held word =
    option_or (option_map (λ value. (names.Workers, value)) (behind (codes "--workers=") word))
    (option_map (λ value. (names.Order, value)) (behind (codes "--order=") word))

-- a word begins with `-`
abbrev pub is_dashed : List ℕ → Bool
is_dashed [] = false
is_dashed (byte ∷ bytes) = byte == 45

-- a word that names no option and holds none is a positional, unless it begins with `-`
abbrev pub plain_taken : Found → List ℕ → Option (OptionName × List ℕ) → Option Found
plain_taken found word (Some held) = with_value found held.0 held.1
plain_taken found word None = if is_dashed word then None else Some (with_positional found word)

-- the value of a named option is the next word
abbrev pub option_taken : Found → List ℕ → Option OptionName → Option Found
option_taken found word (Some name) = Some (expecting found (Value name))
option_taken found word None = plain_taken found word (option_held word)

-- a word that may be anything; behind `--` all words are positionals
abbrev pub any_taken : Found → List ℕ → Option Found
any_taken found word = if bytes_eq word (codes "--") then Some (expecting found Positional) else option_taken found word (option_named word)

-- one word more; none where it is not what it may be
abbrev pub taken : Expected → Found → List ℕ → Option Found
taken Any found word = any_taken found word
taken (Value name) found word = with_value found name word
taken Positional found word = Some (with_positional found word)

-- no word is left; none where a value is
abbrev pub ended : Expected → Found → Option Found
ended Any found = Some found
ended (Value name) found = None
ended Positional found = Some found

-- what words say behind what was said
abbrev pub parted_from : Found → List (List ℕ) → Option Found
parted_from found [] = ended found.next found
parted_from found (word ∷ words) = option_and_then (λ more. parted_from more words) (taken found.next found word)

-- what the words behind the first one say; none where they break the rule of options
abbrev pub parted : List (List ℕ) → Option Found
parted words = parted_from nothing words

-- ---- what the values say

-- how many workers the value of an option says
abbrev pub workers_of : Option (List ℕ) → Option ℕ
workers_of None = Some default_workers
workers_of (Some value) = workers_in value

abbrev pub order_in : List ℕ → Option Order
order_in word = if bytes_eq word (codes "declared") then Some Declared else (if bytes_eq word (codes "reverse") then Some Reverse else None)

-- the order that the value of an option says
abbrev pub order_of : Option (List ℕ) → Option Order
order_of None = Some Declared
order_of (Some value) = order_in value

-- by how many workers, and in which order, windows are loaded; none where a value has not its form
abbrev pub load_options : Found → Option (ℕ × Order)
load_options found = option_and_then (λ workers. option_map (λ order. (workers, order)) (order_of found.order)) (workers_of found.workers)

-- an option stands
abbrev pub has_option : Found → Bool
has_option found = is_some found.workers || is_some found.order
