-- What the target tells of itself: INQUIRY and REPORT LUNS data (SPC-4), and READ CAPACITY data (SBC-3).
-- The fields are the standards', and what they say is this project's own.
use Rattle.std.specs.Prelude.{ℕ, ◌-◌, ◌==◌, Bool, List, [], ◌∷◌, ◌++◌, length, replicate, codes, min, Option, Some, None, if◌then◌else◌}
use Rattle.std.specs.Int.{w16, w32, w64, to_be_bytes}
use Rattle.pr_words.specs.declared.limits.TheConstants.{BLOCK}

-- INQUIRY (SPC-4, standard INQUIRY data)

-- PERIPHERAL QUALIFIER and PERIPHERAL DEVICE TYPE: a direct access block device, or none, where the
-- target has no such logical unit
abbrev pub peripheral : Bool → ℕ
peripheral here = if here then 0x00 else 0x7F

-- VERSION: SPC-4
abbrev pub version : ℕ
version = 0x06

-- RESPONSE DATA FORMAT, with NORMACA and HISUP zero
abbrev pub response_data_format : ℕ
response_data_format = 0x02

-- MULTIP, with the other bits of its byte zero: more than one target port
abbrev pub multiple_ports : ℕ
multiple_ports = 0x10

-- vendor, product and product revision level
abbrev pub vendor : List ℕ
vendor = codes "PRTOOL  "

abbrev pub product : List ℕ
product = codes "SHARED DISK     "

abbrev pub revision : List ℕ
revision = codes "0001"

-- what ADDITIONAL LENGTH counts
abbrev pub behind_additional_length : List ℕ
behind_additional_length = (0 ∷ multiple_ports ∷ 0 ∷ []) ++ vendor ++ product ++ revision

-- 36 bytes
abbrev pub standard_inquiry : Bool → List ℕ
standard_inquiry here =
    (peripheral here ∷ 0 ∷ version ∷ response_data_format ∷ length behind_additional_length ∷ []) ++ behind_additional_length

-- INQUIRY (SPC-4, vital product data)

-- a page: its code, PAGE LENGTH, and what that counts
abbrev pub vital_page : Bool → ℕ → List ℕ → List ℕ
vital_page here code content = (peripheral here ∷ code ∷ []) ++ to_be_bytes w16 (length content) ++ content

-- the codes of the pages that there are
abbrev pub supported_pages : List ℕ
supported_pages = 0x00 ∷ 0x80 ∷ 0x83 ∷ []

-- PRODUCT SERIAL NUMBER
abbrev pub serial_number : List ℕ
serial_number = codes "00000001"

-- DESIGNATOR: the vendor, and behind it the serial number
abbrev pub designator : List ℕ
designator = vendor ++ serial_number

-- a designation descriptor: CODE SET 2h, ASCII; ASSOCIATION 0h, the logical unit, and DESIGNATOR TYPE 1h,
-- which begins with the vendor; DESIGNATOR LENGTH
abbrev pub designation : List ℕ
designation = (0x02 ∷ 0x01 ∷ 0 ∷ length designator ∷ []) ++ designator

-- the page with a code: Supported VPD Pages, Unit Serial Number, Device Identification; there is no other
abbrev pub vital_page_at : ℕ → Bool → Option (List ℕ)
vital_page_at code here =
    if code == 0x00 then Some (vital_page here 0x00 supported_pages) else
    if code == 0x80 then Some (vital_page here 0x80 serial_number) else
    if code == 0x83 then Some (vital_page here 0x83 designation) else None

-- READ CAPACITY (SBC-3)

-- READ CAPACITY(10) data: RETURNED LOGICAL BLOCK ADDRESS is the last block's, or FFFFFFFFh where the
-- field is too small for it, and LOGICAL BLOCK LENGTH IN BYTES
abbrev pub capacity_10 : ℕ → List ℕ
capacity_10 blocks = to_be_bytes w32 (min (blocks - 1) 0xFFFFFFFF) ++ to_be_bytes w32 BLOCK

-- READ CAPACITY(16) data: without protection, and each logical block is a physical one
abbrev pub capacity_16 : ℕ → List ℕ
capacity_16 blocks = to_be_bytes w64 (blocks - 1) ++ to_be_bytes w32 BLOCK ++ replicate 20 0

-- REPORT LUNS (SPC-4)

-- LUN LIST LENGTH, four reserved bytes, and the list
abbrev pub lun_list : List ℕ → List ℕ
lun_list luns = to_be_bytes w32 (length luns) ++ replicate 4 0 ++ luns

-- logical unit 0, in the 8 bytes of a LUN
abbrev pub lun_zero : List ℕ
lun_zero = replicate 8 0

-- by SELECT REPORT: all logical units but well known ones, well known ones alone, and all
abbrev pub report_luns : ℕ → Option (List ℕ)
report_luns select =
    if select == 0x00 then Some (lun_list lun_zero) else
    if select == 0x01 then Some (lun_list []) else
    if select == 0x02 then Some (lun_list lun_zero) else None
