-- Mistakes in the settings of a crawl: which there are, and of which seed or rule.
use Rattle.std.specs.Prelude.{ℕ, ◌-◌, ◌==◌, ◌&&◌, ◌||◌, Bool, true, false, not, List, [], ◌∷◌, ◌++◌, codes, count_by, length, map, take, Option, None, Some, is_some, nat_eq, nat_lt, if◌then◌else◌}
use Rattle.std.specs.Char.{to_ascii_lowercase}
use Rattle.std.specs.Cmp.Lexicographic.{pointwise}
use Rattle.std.specs.List.{ends_with, enumerate_from, filter_map, list_any, starts_with}
use Rattle.std.specs.Option.{option_map}
use Rattle.gopher_bytes.specs.Lines.{has_byte}
use Rattle.gopher_item.specs.Place.{HomeData, PlaceData}
use Rattle.gopher_item.specs.Rule.{RuleData}
use Rattle.gopher_item.specs.Scope.{any_covers}
use Rattle.gopher_tree.specs.Files.{File}
use Rattle.gopher_tree.specs.Reply.{Named, NamedFolder, named}
use Rattle.gopher_scope.specs.Lines.{is_own, leads_to_search}
use Rattle.gopher_scope.specs.Settings.{SettingsData}
use Rattle.gopher_check.specs.declared.crawl_warning.CrawlWarning.{CrawlWarning}
use Rattle.gopher_check.specs.declared.crawl_warning.CrawlWarning.TheVariants as warning
use Rattle.gopher_check.specs.declared.crawl_warning.RuleMistake.{RuleMistake}
use Rattle.gopher_check.specs.declared.crawl_warning.RuleMistake.TheVariants as rule
use Rattle.gopher_check.specs.declared.crawl_warning.SeedMistake.{SeedMistake}
use Rattle.gopher_check.specs.declared.crawl_warning.SeedMistake.TheVariants as seed

-- ---- hosts

-- the host is this text, in any case of letters
abbrev pub is_named : List ℕ → List ℕ → Bool
is_named host text =
    pointwise nat_eq (map to_ascii_lowercase host) (map to_ascii_lowercase text)

-- the host is a name of the machine that connects to it: `localhost`, an address that begins with
-- `127.`, or `::1`
abbrev pub is_loopback : List ℕ → Bool
is_loopback host =
    is_named host (codes "localhost") || starts_with nat_eq host (codes "127.")
    || pointwise nat_eq host (codes "::1")

-- the text has one colon, as a host and a port have; a numerical address has none or more
abbrev pub has_one_colon : List ℕ → Bool
has_one_colon host = count_by (λ byte. byte == 58) host == 1

-- the text is a URL, or a host and a port
abbrev pub is_more_than_host : List ℕ → Bool
is_more_than_host host = has_byte 47 host || has_one_colon host

-- readers can't connect to this host: an address that means all addresses of a machine, an address
-- in brackets, a URL, or a host and a port
abbrev pub is_unreachable : List ℕ → Bool
is_unreachable host =
    pointwise nat_eq host (codes "0.0.0.0") || pointwise nat_eq host (codes "::")
    || starts_with nat_eq host (codes "[") || is_more_than_host host

-- a hit at this host leads readers to their own machine, although the server has another name
abbrev pub misleads : HomeData → List ℕ → Bool
misleads home host = is_loopback host && not (is_loopback home.host)

-- the host and the port are those of the server
abbrev pub is_of_server : HomeData → List ℕ → ℕ → Bool
is_of_server home host port = is_own home (Some (record { host = host; port = port }))

-- a selector or prefix that none of this server's selectors begins with
abbrev pub lacks_slash : List ℕ → Bool
lacks_slash selector = not (length selector == 0) && not (starts_with nat_eq selector (codes "/"))

-- ---- seeds

abbrev pub is_own_seed : HomeData → PlaceData → Bool
is_own_seed home place = is_of_server home place.host place.port

-- the mistake in the selector of a seed of this server
abbrev pub own_seed_mistake : List File → List ℕ → Option SeedMistake
own_seed_mistake files selector =
    if lacks_slash selector then Some seed.NoSlash
    else (if leads_to_search selector then Some seed.Search
    else (if is_some (named files selector) then None else Some seed.Missing))

-- the first mistake in a seed
abbrev pub seed_mistake : List File → HomeData → PlaceData → Option SeedMistake
seed_mistake files home place =
    if misleads home place.host then Some seed.Loopback
    else (if is_own_seed home place then own_seed_mistake files place.selector else None)

-- ---- rules

abbrev pub is_own_rule : HomeData → RuleData → Bool
is_own_rule home covering = is_of_server home covering.host covering.port

abbrev pub is_folder_named : Option Named → Bool
is_folder_named (Some (NamedFolder path)) = true
is_folder_named named = false

-- a rule covers the menu at this selector of the server that another rule covers
abbrev pub covers_menu : List RuleData → RuleData → List ℕ → Bool
covers_menu rules covering selector =
    any_covers rules
    (record { host = covering.host; port = covering.port; selector = selector; kind = 49 })

-- the prefix without its last byte
abbrev pub folder_selector : List ℕ → List ℕ
folder_selector prefix = take (length prefix - 1) prefix

-- the prefix is that of what is in a folder other than the root, and no allow rule covers the
-- folder's own menu
abbrev pub leaves_out_menu : List File → List RuleData → RuleData → Bool
leaves_out_menu files allow covering =
    nat_lt 1 (length covering.prefix) && ends_with nat_eq covering.prefix (codes "/")
    && is_folder_named (named files (folder_selector covering.prefix))
    && not (covers_menu allow covering (folder_selector covering.prefix))

-- the mistake in an allow rule of this server
abbrev pub own_allow_mistake : List File → List RuleData → RuleData → Option RuleMistake
own_allow_mistake files allow covering =
    if lacks_slash covering.prefix then Some rule.NoSlash
    else (if leaves_out_menu files allow covering then Some rule.MenuLeftOut else None)

-- the first mistake in an allow rule
abbrev pub allow_mistake : List File → HomeData → List RuleData → RuleData → Option RuleMistake
allow_mistake files home allow covering =
    if misleads home covering.host then Some rule.Loopback
    else (if is_own_rule home covering then own_allow_mistake files allow covering else None)

-- the prefix begins all selectors, or all but the root's empty one
abbrev pub begins_all : List ℕ → Bool
begins_all prefix = (length prefix == 0) || pointwise nat_eq prefix (codes "/")

-- the mistake in a deny rule of this server
abbrev pub own_deny_mistake : RuleData → Option RuleMistake
own_deny_mistake covering =
    if begins_all covering.prefix then Some rule.DeniesAll
    else (if lacks_slash covering.prefix then Some rule.NoSlash else None)

-- the first mistake in a deny rule
abbrev pub deny_mistake : HomeData → RuleData → Option RuleMistake
deny_mistake home covering =
    if misleads home covering.host then Some rule.Loopback
    else (if is_own_rule home covering then own_deny_mistake covering else None)

-- ---- the settings

-- there are seeds, and none is of this server
abbrev pub lacks_own_seed : HomeData → List PlaceData → Bool
lacks_own_seed home seeds =
    not (length seeds == 0) && not (list_any (is_own_seed home) seeds)

-- this mistake, if it was made
abbrev pub found_if : Bool → CrawlWarning → List CrawlWarning
found_if made found = if made then found ∷ [] else []

-- the mistakes in these seeds, by index
abbrev pub seed_mistakes : List File → HomeData → List PlaceData → List CrawlWarning
seed_mistakes files home seeds =
    filter_map (λ s. option_map (warning.Seed s.0) (seed_mistake files home s.1))
    (enumerate_from 0 seeds)

-- the mistakes in these allow rules, by index
abbrev pub allow_mistakes : List File → HomeData → List RuleData → List CrawlWarning
allow_mistakes files home allow =
    filter_map (λ r. option_map (warning.Allow r.0) (allow_mistake files home allow r.1))
    (enumerate_from 0 allow)

-- the mistakes in these deny rules, by index
abbrev pub deny_mistakes : HomeData → List RuleData → List CrawlWarning
deny_mistakes home deny =
    filter_map (λ r. option_map (warning.Deny r.0) (deny_mistake home r.1)) (enumerate_from 0 deny)

-- the mistakes in the host, the seeds and the rules, in this order
abbrev pub crawl_mistakes : List File → SettingsData → List CrawlWarning
crawl_mistakes files settings =
    found_if (is_unreachable settings.home.host) warning.UnreachableHost
    ++ found_if (lacks_own_seed settings.home settings.seeds) warning.NoOwnSeed
    ++ seed_mistakes files settings.home settings.seeds
    ++ allow_mistakes files settings.home settings.scope.allow
    ++ deny_mistakes settings.home settings.scope.deny
