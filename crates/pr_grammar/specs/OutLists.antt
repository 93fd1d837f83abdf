-- The parameter list of PERSISTENT RESERVE OUT (SPC-4): 24 bytes.
use Rattle.std.specs.Prelude.{ℕ, ◌+◌, ◌*◌, ◌/◌, ◌%◌, ◌==◌, not, Bool, List, [], ◌∷◌, ◌++◌, length, slice_index, Result, Ok, Err, if◌then◌else◌}
use Rattle.std.specs.Int.{w64, to_be_bytes}
use Rattle.pr_words.specs.Fields.{number64_at}
use Rattle.pr_words.specs.declared.limits.TheConstants.{PARAMETER_LIST}
use Rattle.pr_grammar.specs.Cdbs.{bit}
use Rattle.pr_grammar.specs.declared.param.OutList.{OutList}
use Rattle.pr_grammar.specs.declared.param.ParamFault.{ParamFault}
use Rattle.pr_grammar.specs.declared.param.ParamFault.TheVariants.{Length}

-- RESERVATION KEY
abbrev pub list_key : List ℕ → ℕ
list_key sent = number64_at sent 0

-- SERVICE ACTION RESERVATION KEY
abbrev pub list_action_key : List ℕ → ℕ
list_action_key sent = number64_at sent 8

-- the byte of SPEC_I_PT, ALL_TG_PT and APTPL
abbrev pub list_flags : List ℕ → ℕ
list_flags sent = slice_index sent 20

-- SPEC_I_PT, bit 3
abbrev pub is_spec_i_pt : ℕ → Bool
is_spec_i_pt flags = flags / 8 % 2 == 1

-- ALL_TG_PT, bit 2
abbrev pub is_all_tg_pt : ℕ → Bool
is_all_tg_pt flags = flags / 4 % 2 == 1

-- APTPL, bit 0
abbrev pub is_aptpl : ℕ → Bool
is_aptpl flags = flags % 2 == 1

-- the list in its bytes, whatever they are: obsolete and reserved bits and bytes are ignored
abbrev pub list_of : List ℕ → OutList
list_of sent = record {
  key = list_key sent;
  action_key = list_action_key sent;
  spec_i_pt = is_spec_i_pt (list_flags sent);
  all_tg_pt = is_all_tg_pt (list_flags sent);
  aptpl = is_aptpl (list_flags sent);
}

abbrev pub read_list : List ℕ → Result OutList ParamFault
read_list sent = if not (length sent == PARAMETER_LIST) then Err (Length (length sent)) else Ok (list_of sent)

-- byte 20 of a list
abbrev pub flags_byte : OutList → ℕ
flags_byte l = 8 * bit l.spec_i_pt + 4 * bit l.all_tg_pt + bit l.aptpl

-- the spelling, with zeros where something is obsolete or reserved
abbrev pub spelled_list : OutList → List ℕ
spelled_list l =
    to_be_bytes w64 l.key ++ to_be_bytes w64 l.action_key ++ (0 ∷ 0 ∷ 0 ∷ 0 ∷ flags_byte l ∷ 0 ∷ 0 ∷ 0 ∷ [])
