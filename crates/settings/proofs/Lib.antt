mod Fields
