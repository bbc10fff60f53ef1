-- Worked rows of the reading of a policy, from the document on: the texts are in ASCII.
use Rattle.std.specs.Prelude.{codes, refl, ◌≡◌, ℕ, pos, false, List, [], ◌∷◌, ◌++◌, length, drop, replicate, Some, None, Result, Ok, Err}
use Rattle.toml.specs.Data.{Data, string, integer, table, member, no_members}
use Rattle.toml.specs.Parse.{parse_document}
use Rattle.toml.proofs.OnLiterals.{toml_on_literals}
use Rattle.ds_word.specs.ResultBinding.{◌>>=◌}
use Rattle.ds_policy.specs.declared.policy.PolicyPage.{PolicyPage}
use Rattle.ds_policy.specs.declared.policy.PolicyRule.{PolicyRule}
use Rattle.ds_policy.specs.declared.grant.Right.TheVariants.{Read}
use Rattle.ds_policy.specs.Value.{PolicyValue}
use Rattle.ds_policy.specs.declared.cause.PolicyReason.{PolicyReason}
use Rattle.ds_policy.specs.declared.cause.PolicyReason.TheVariants.{NotToml, BadVersion, Rule}
use Rattle.ds_policy.specs.declared.cause.RuleCause.TheVariants.{BadAddress, UntilOfVersion1, BadUntil, SamePlace, TooManyRules, FifthRegion}
use Rattle.ds_policy.specs.Refusal.{or_else}
use Rattle.ds_policy.specs.PolicyParts.{policy_process_of, source_of, page_of, new_page, grant_of, rule_of, beside, new_rule, sources_of}
use Rattle.ds_policy.specs.PolicyText.{each_of, processes_of, pages_of, rules_of, says}

-- what a text says of a policy, with any number of processes and pages
abbrev said : List ℕ → Result PolicyValue PolicyReason
said text = or_else (parse_document text) NotToml >>= says

-- a policy of one process, with its code and a page of data
abbrev sample : List ℕ
sample = codes "version = 1\nframes = 16\n[[process]]\nstart = 0x00400000\nline = 0\n[[page]]\nname = \"code\"\nsource = \"one.s\"\npart = 0\n[[page]]\nname = \"data\"\n"

-- the text of a rule that lets process 1 read page `code` at an address
abbrev rule_at : List ℕ → List ℕ
rule_at address = codes "[[rule]]\nprocess = 1\naddress = " ++ address ++ codes "\nright = \"read\"\npage = \"code\"\n"

pub no_bytes : said [] ≡ Err BadVersion
unfolding toml_on_literals says
no_bytes = refl

pub no_value : said (codes "version =") ≡ Err NotToml
unfolding toml_on_literals says
no_value = refl

pub off_a_page : said (sample ++ rule_at (codes "0x00400004")) ≡ Err (Rule 1 BadAddress)
unfolding toml_on_literals policy_process_of source_of page_of new_page grant_of rule_of beside new_rule each_of processes_of pages_of rules_of says
off_a_page = refl

-- the sample in a version, with a second rule, whose right ends
abbrev ends : List ℕ → List ℕ → Result PolicyValue PolicyReason
ends version until =
    said (codes "version = " ++ version ++ drop (length (codes "version = 1")) sample ++ rule_at (codes "0x00400000") ++ rule_at (codes "0x00410000") ++ codes "until = " ++ until)

pub version_1_has_no_end : ends (codes "1") (codes "2") ≡ Err (Rule 2 UntilOfVersion1)
unfolding toml_on_literals policy_process_of source_of page_of new_page grant_of rule_of beside new_rule each_of processes_of pages_of rules_of says
version_1_has_no_end = refl

pub no_right_ends_at_0 : ends (codes "2") (codes "0") ≡ Err (Rule 2 BadUntil)
unfolding toml_on_literals policy_process_of source_of page_of new_page grant_of rule_of beside new_rule each_of processes_of pages_of rules_of says
no_right_ends_at_0 = refl

pub there_is_no_version_3 : ends (codes "3") (codes "2") ≡ Err BadVersion
unfolding toml_on_literals says
there_is_no_version_3 = refl

pub one_rule : said (sample ++ rule_at (codes "0x00400000")) ≡ Ok (record {
  frames = 16;
  rate = 0;
  processes = record { start = 4194304; line = 0 } ∷ [];
  pages = record { name = codes "code"; source = Some (record { name = codes "one.s"; part = 0 }) } ∷ record { name = codes "data"; source = None } ∷ [];
  rules = record { process = 1; address = 4194304; right = Read; page = Some 0; give = false; until = None } ∷ [];
})
unfolding toml_on_literals policy_process_of source_of page_of new_page grant_of rule_of beside new_rule each_of processes_of pages_of rules_of says
one_rule = refl

-- the page `data`
abbrev data_page : List PolicyPage
data_page = record { name = codes "data"; source = None } ∷ []

-- the rule that lets process 1 read page 0 at an address
abbrev rule_for : ℕ → PolicyRule
rule_for address = record { process = 1; address = address; right = Read; page = Some 0; give = false; until = None }

-- rules of process 1 in four regions
abbrev four_regions : List PolicyRule
four_regions = rule_for 0 ∷ rule_for 0x400000 ∷ rule_for 0x800000 ∷ rule_for 0xC00000 ∷ []

-- a rule's table in the document, of process 1 at an address
abbrev rule_data : ℕ → Data
rule_data address = table (member (codes "process") (integer (pos 1)) (member (codes "address") (integer (pos address)) (member (codes "right") (string (codes "read")) (member (codes "page") (string (codes "data")) no_members))))

pub same_place : new_rule 1 1 data_page four_regions (rule_data 0) ≡ Err SamePlace
unfolding grant_of rule_of beside new_rule
same_place = refl

pub fourth_region : new_rule 1 1 data_page four_regions (rule_data 0xC01000) ≡ Ok (rule_for 0xC01000)
unfolding grant_of rule_of beside new_rule
fourth_region = refl

pub fifth_region : new_rule 1 1 data_page four_regions (rule_data 0x1000000) ≡ Err FifthRegion
unfolding grant_of rule_of beside new_rule
fifth_region = refl

pub rule_256 : new_rule 1 1 data_page (replicate 255 (rule_for 0)) (rule_data 4096) ≡ Ok (rule_for 4096)
unfolding grant_of rule_of beside new_rule
rule_256 = refl

pub rule_257 : new_rule 1 1 data_page (replicate 256 (rule_for 0)) (rule_data 4096) ≡ Err TooManyRules
unfolding grant_of rule_of beside new_rule
rule_257 = refl

pub sources_once : sources_of (record { name = codes "a"; source = Some (record { name = codes "two.s"; part = 0 }) } ∷ record { name = codes "b"; source = None } ∷ record { name = codes "c"; source = Some (record { name = codes "one.s"; part = 0 }) } ∷ record { name = codes "d"; source = Some (record { name = codes "two.s"; part = 1 }) } ∷ []) ≡ codes "two.s" ∷ codes "one.s" ∷ []
sources_once = refl
